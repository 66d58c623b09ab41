-- The three demands, from the claims that they gather. Assumes nothing.
use Rattle.lists.proofs.Claims.{picked_answers, first_fits}
use Rattle.codes.proofs.Claims.{code_figures}
use Rattle.octets.proofs.Claims.{reads_back, writes_back}
use Rattle.rows.proofs.Claims.{rows_in_use_lem, first_row_counts}
use Rattle.fields.proofs.Claims.{field_reads_back, field_is_spelled, field_figures}
use Rattle.frame.proofs.Claims.{reading_codes, length_limits, payload_length, reading_answers, reading_refused, frame_reads_back, frame_figures}
use Rattle.terms.proofs.Claims.{bag_figures, capacity_largest, cost_largest, formulas_by_mode, terms_limits, checked_methods}
use Rattle.account.proofs.Claims.{forwarded_step_takes_cost, refused_methods_idle, refused_step_keeps, refused_step_reports, short_step_tops_up, step_answers, step_is_top_up_and_debit, steps_apart, sound_within, sound_methods, methods_hand_back}
use Rattle.account.proofs.Codes.{step_codes_in_order}
use Rattle.account_rule.proofs.Bench.{bench_table}
use Rattle.account_rule.proofs.Bucket.{rule_read}
use Rattle.account_rule.proofs.Counted.{steps_reached_lem}
use Rattle.account_rule.proofs.Rule.{allowance_by_mode, rule_of_steps, steps_in_words}
use Rattle.tables.proofs.Claims.{account_reads_back, link_reads_back, row_figures, config_parts, settings_parts, links_in_use_exactly, finds_first, finds_none}
use Rattle.tables_rules.proofs.Claims.{link_sound_exactly, port_bits, numbers_rise, rows_good_exactly, link_accepted, link_refused, sizes_within_smax}
use Rattle.image_layout.proofs.Claims.{constant_limits, constant_by_first, image_figures}
use Rattle.image_fill.proofs.Claims.{long_enough_exactly, run_parts}
use Rattle.image_field.proofs.Claims.{head_codes_in_order, next_codes_in_order, tags_in_order, fields_by_tag}
use Rattle.image_read.proofs.Bench.{image_p_reads, case_thirteen, cut_images, faulty_images, two_faults}
use Rattle.image_read.proofs.Claims.{accepted_ends, read_codes, read_field_by_field, read_answers, good_fields_exactly}
use Rattle.image_read.proofs.Prefix.{prefix_read}
use Rattle.image_load.proofs.Claims.{load_codes, load_refuses, offsets_inside, refused_load_keeps, rows_beyond_kept}
use Rattle.image_load.proofs.Fresh.{fresh_holds, fresh_sound, load_accepts, load_fresh}
use Rattle.image_load.proofs.Prefix.{prefix_load}
use Rattle.image_write.proofs.Claims.{counts_exactly, first_bad_account, first_bad_constant, first_bad_link, image_length_lem, refused_write_keeps, write_accepts, write_codes, write_offsets, write_refuses, writes_image}
use Rattle.image_round_trip.proofs.RoundTrips.{accepted_is_image, image_is_accepted, read_write, write_read}
use Rattle.switch.proofs.Claims.{at_the_count, call_answers_lem, call_parts, call_effects, codes_in_order, in_use_exactly, length_alone, ports_beyond, refused_call_keeps, rows_beyond_unread}
use Rattle.switch_verdict.proofs.Claims.{verdicts_apart}
use Rattle.replay_words.proofs.Claims.{digits_read_back, no_leading_zero, digit_figures, word_figures}
use Rattle.replay_text.proofs.Claims.{lines_fit, lines_by_verdict, sheet_lines, other_lines}
use Rattle.replay_log.proofs.Settled.{next_settled, next_moved, never_more, frame_inside}
use Rattle.replay_log.proofs.Claims.{record_reads_back, no_whole_record, record_figures}
use Rattle.replay_answer.proofs.Claims.{long_frame_skipped, record_answered, replied_parts}
use Rattle.replay_turn.proofs.Begins.{beginnings}
use Rattle.replay_turn.proofs.Ends.{replay_ends}
use Rattle.replay_turn.proofs.Lines.{text_by_frames}
use Rattle.replay_turn.proofs.Rest.{turn_is_call}
use Rattle.replay_turn.proofs.Figures.{turn_figures, stop_figures}
use Rattle.replay_turn.proofs.Keeping.{rest_kept}
use Rattle.replay_turn.proofs.Log.{enough_records, log_reads_back}
use Rattle.replay_turn.proofs.Text.{text_of_pieces, turns_move_on}
use Rattle.demands.proofs.Replayed.{replay_of_rig, refused_rig, case_fourteen}
use Rattle.demands.proofs.Bench.{call_bench_table, case_twelve, meant_limits}
use Rattle.demands.proofs.Counted.{reached_by_answers, times_never_fall}
use Rattle.demands.proofs.Isolation.{isolation, isolation_of_fresh_tables}
use Rattle.demands.proofs.Rule.{rule_of_fresh_tables}
use Rattle.demands.proofs.Words.{others_in_words, rule_in_words, rule_of_history, ten_never}
use Rattle.demands.specs.Demand1.{Answers, RefusalsKeep, Demand1}
use Rattle.demands.specs.Figures.{Formats, Parts, Values, Figures}
use Rattle.demands.specs.Replay.{Replay}
use Rattle.demands.specs.Demand2.{RoundTrips, Verdicts, Images, Demand2}
use Rattle.demands.specs.Demand3.{Demand3}

pub answers : Answers
answers =
    record {
      frame_call = call_answers_lem;
      policing_step = step_answers;
      frame_reading = reading_answers;
      image_reading = read_codes;
      image_loading = load_codes;
      image_writing = write_codes;
    }

pub refusals_keep : RefusalsKeep
refusals_keep =
    record {
      frame_call = refused_call_keeps;
      frame_call_effects = call_effects;
      policing_step = refused_step_keeps;
      short_step = short_step_tops_up;
      frame_reading = reading_refused;
      image_loading = refused_load_keeps;
      image_writing = refused_write_keeps;
    }

pub demand_1 : Demand1
demand_1 =
    record {
      answers = answers;
      refusals_keep = refusals_keep;
      verdicts_apart = verdicts_apart;
      steps_apart = steps_apart;
      step_reports_lem = refused_step_reports;
      offsets = offsets_inside;
    }

pub round_trips : RoundTrips
round_trips =
    record {
      written_reads_back = write_read;
      read_writes_back = read_write;
      accepted_is_image = accepted_is_image;
      image_is_accepted = image_is_accepted;
    }

pub verdicts : Verdicts
verdicts =
    record {
      codes_in_order = codes_in_order;
      step_codes_in_order = step_codes_in_order;
      effects = call_effects;
      length_alone = length_alone;
      ports_beyond = ports_beyond;
      in_use_lem = in_use_exactly;
      at_the_count = at_the_count;
      rows_beyond = rows_beyond_unread;
      links_in_use_lem = links_in_use_exactly;
      finds_first = finds_first;
      finds_none = finds_none;
      takes_cost = forwarded_step_takes_cost;
      top_up_and_debit = step_is_top_up_and_debit;
      methods_idle = refused_methods_idle;
      methods_hand_back = methods_hand_back;
    }

pub images : Images
images =
    record {
      head_codes = head_codes_in_order;
      next_codes = next_codes_in_order;
      tags = tags_in_order;
      fields_by_tag = fields_by_tag;
      answers = read_answers;
      accepted_ends = accepted_ends;
      good_fields = good_fields_exactly;
      field_by_field = read_field_by_field;
      long_enough_lem = long_enough_exactly;
      load_accepts = load_accepts;
      load_refuses = load_refuses;
      load_fresh = load_fresh;
      fresh_holds = fresh_holds;
      fresh_sound = fresh_sound;
      rows_beyond = rows_beyond_kept;
      prefix_read = prefix_read;
      prefix_load = prefix_load;
      counts = counts_exactly;
      write_accepts = write_accepts;
      write_refuses = write_refuses;
      write_offsets = write_offsets;
      writes_image = writes_image;
      image_length_lem = image_length_lem;
      first_bad_constant = first_bad_constant;
      first_bad_account = first_bad_account;
      first_bad_link = first_bad_link;
    }

pub formats : Formats
formats =
    record {
      octets_read = reads_back;
      octets_written = writes_back;
      fields_read = field_reads_back;
      fields_spelled = field_is_spelled;
      fields = field_figures;
      frames_read = frame_reads_back;
      frame = frame_figures;
      accounts_read = account_reads_back;
      links_read = link_reads_back;
      rows = row_figures;
    }

pub parts : Parts
parts = record { config = config_parts; settings = settings_parts; runs = run_parts; call = call_parts }

pub values : Values
values =
    record {
      terms = terms_limits;
      checked = checked_methods;
      sound = sound_within;
      sound_methods = sound_methods;
      bags = bag_figures;
      formulas = formulas_by_mode;
      capacity = capacity_largest;
      cost = cost_largest;
      links = link_sound_exactly;
      port_bits = port_bits;
      numbers_rise = numbers_rise;
      rows_good = rows_good_exactly;
      sizes = sizes_within_smax;
      links_refused = link_refused;
      links_accepted = link_accepted;
    }

pub figures : Figures
figures =
    record {
      formats = formats;
      values = values;
      parts = parts;
      codes = code_figures;
      first_fits = first_fits;
      lengths = length_limits;
      reading = reading_codes;
      payload = payload_length;
      rows_in_use_lem = rows_in_use_lem;
      first_row = first_row_counts;
      image = image_figures;
      constants = constant_limits;
      constants_by_first = constant_by_first;
      image_p_lem = image_p_reads;
      case_thirteen = case_thirteen;
      cut_images = cut_images;
      faulty_images = faulty_images;
      two_faults = two_faults;
      steps = bench_table;
      calls = call_bench_table;
      case_twelve = case_twelve;
    }

pub replay : Replay
replay =
    record {
      record_reads_back = record_reads_back;
      no_whole_record = no_whole_record;
      record_figures = record_figures;
      frame_inside = frame_inside;
      next_settled = next_settled;
      next_moved = next_moved;
      never_more = never_more;
      record_answered = record_answered;
      long_frame_skipped = long_frame_skipped;
      replied_parts = replied_parts;
      replay_of_rig = replay_of_rig;
      refused_rig = refused_rig;
      text_of_pieces = text_of_pieces;
      log_reads_back = log_reads_back;
      enough_records = enough_records;
      replay_ends = replay_ends;
      text_by_frames = text_by_frames;
      beginnings = beginnings;
      turn_is_call = turn_is_call;
      turns_move_on = turns_move_on;
      rest_kept = rest_kept;
      turn_figures = turn_figures;
      stop_figures = stop_figures;
      case_fourteen = case_fourteen;
      lines_by_verdict = lines_by_verdict;
      sheet_lines = sheet_lines;
      other_lines = other_lines;
      lines_fit = lines_fit;
      digits_read_back = digits_read_back;
      no_leading_zero = no_leading_zero;
      digit_figures = digit_figures;
      word_figures = word_figures;
    }

pub demand_2 : Demand2
demand_2 =
    record {
      round_trips = round_trips;
      verdicts = verdicts;
      images = images;
      figures = figures;
      replay = replay;
    }

pub demand_3 : Demand3
demand_3 =
    record {
      rule = rule_of_history;
      rule_of_fresh_tables = rule_of_fresh_tables;
      in_words = rule_in_words;
      others_in_words = others_in_words;
      ten_never = ten_never;
      reached_by_answers = reached_by_answers;
      times_never_fall = times_never_fall;
      meant_limits = meant_limits;
      isolation = isolation;
      isolation_of_fresh_tables = isolation_of_fresh_tables;
      picked_answers = picked_answers;
      rule_read = rule_read;
      allowance_by_mode = allowance_by_mode;
      rule_of_steps = rule_of_steps;
      steps_in_words = steps_in_words;
      steps_reached_lem = steps_reached_lem;
    }
