-- Request Q-1 whole. Assumes nothing.
use Rattle.lists.proofs.Claims.{picked_answers}
use Rattle.receive.proofs.Claims.{possible_answers, refused_keeps, unknown_exactly, row_is_first, row_is_nowhere, rows_beyond, answers_by_memory, later_delivery_is_none, changes_own_memory, time_and_number_stored, by_own_memory}
use Rattle.receive.proofs.Figures.{skew_row_figures, skew_row_reads, rows_in_use_exactly, memory_figures}
use Rattle.receive_answer.proofs.Claims.{answers_apart, reception_numbers, answers_exactly, later_counts_as_none, answers_in_figures}
use Rattle.receive_sequence.proofs.Claims.{numbers_are_octets, pass_table, passes_exactly}
use Rattle.receive_history.specs.Claims.{ReceivingEnd}
use Rattle.receive_history.proofs.Counts.{one_copy_each}
use Rattle.receive_history.proofs.Figures.{history_in_figures, zeros_are_empty}
use Rattle.receive_history.proofs.Isolation.{receptions_apart_from_any, receptions_apart}
use Rattle.receive_history.proofs.Meeting.{others_in_words, copies_in_words, copy_meets_delivery, met_once, alone_delivered}
use Rattle.receive_history.proofs.Rule.{rule_of_receptions, rule_of_next}

pub receiving_end : ReceivingEnd
receiving_end =
    record {
      possible_answers = possible_answers;
      answers_apart = answers_apart;
      reception_numbers = reception_numbers;
      answers_exactly = answers_exactly;
      later_counts_as_none = later_counts_as_none;
      answers_in_figures = answers_in_figures;
      refused_keeps = refused_keeps;
      unknown_exactly = unknown_exactly;
      row_is_first = row_is_first;
      row_is_nowhere = row_is_nowhere;
      rows_beyond = rows_beyond;
      skew_row_figures = skew_row_figures;
      skew_row_reads = skew_row_reads;
      rows_in_use_exactly = rows_in_use_exactly;
      memory_figures = memory_figures;
      answers_by_memory = answers_by_memory;
      later_delivery_is_none = later_delivery_is_none;
      changes_own_memory = changes_own_memory;
      time_and_number_stored = time_and_number_stored;
      by_own_memory = by_own_memory;
      numbers_are_octets = numbers_are_octets;
      pass_table = pass_table;
      passes_exactly = passes_exactly;
      zeros_are_empty = zeros_are_empty;
      rule = rule_of_receptions;
      history_in_figures = history_in_figures;
      rule_of_next = rule_of_next;
      others_in_words = others_in_words;
      copies_in_words = copies_in_words;
      copy_meets_delivery = copy_meets_delivery;
      met_once = met_once;
      one_copy_each = one_copy_each;
      alone_delivered = alone_delivered;
      apart_from_any = receptions_apart_from_any;
      apart = receptions_apart;
      picked_answers = picked_answers;
    }
