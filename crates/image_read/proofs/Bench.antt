-- Image P, and image P with faults in it, computed. Assumes nothing.
use mathlib.Core.Path.{refl}
use Rattle.octets.specs.Numbers.{number_at, octets_of}
use Rattle.octets.specs.Runs.{octets_at, joined}
use Rattle.terms.specs.Terms.{terms_good}
use Rattle.lists.specs.Leading.{leading}
use Rattle.tables.specs.Rows.{terms_at, link_at}
use Rattle.tables_rules.specs.Rules.{ports_sound, sizes_sound, link_sound, account_good, number_rises, link_good}
use Rattle.fields.specs.Fields.{field_of}
use Rattle.image_layout.specs.Layout.{image_of, field_offset, constant_good}
use Rattle.image_read.specs.Read.{good_field, good_accounts, good_links, read_end, read_image}
use Rattle.image_field.specs.Checks.{field_code, head_good, head_code, in_order, data_octets, is_full, values_good, next_code}
use Rattle.image_read.specs.Bench.{ImagePReads, CaseThirteen, CutImages, FaultyImages, TwoFaults}

pub image_p_reads : ImagePReads
unfolding number_at octets_of octets_at joined terms_good leading terms_at link_at ports_sound sizes_sound link_sound account_good number_rises link_good field_of image_of field_offset constant_good field_code head_good head_code in_order data_octets is_full values_good next_code good_field good_accounts good_links read_end read_image
image_p_reads = (refl, refl, refl, refl)

pub case_thirteen : CaseThirteen
unfolding number_at terms_good leading terms_at link_at ports_sound sizes_sound link_sound account_good number_rises link_good field_offset constant_good field_code head_good head_code in_order data_octets is_full values_good next_code good_field good_accounts good_links read_end read_image
case_thirteen = refl

pub cut_images : CutImages
unfolding number_at terms_good leading terms_at link_at ports_sound sizes_sound link_sound account_good number_rises link_good field_offset constant_good field_code head_good head_code in_order data_octets is_full values_good next_code good_field good_accounts good_links read_end read_image
cut_images = refl

pub faulty_images : FaultyImages
unfolding number_at terms_good leading terms_at link_at ports_sound sizes_sound link_sound account_good number_rises link_good field_offset constant_good field_code head_good head_code in_order data_octets is_full values_good next_code good_field good_accounts good_links read_end read_image
faulty_images = (refl, refl, refl, refl)

pub two_faults : TwoFaults
unfolding number_at terms_good leading terms_at link_at ports_sound sizes_sound link_sound account_good number_rises link_good field_offset constant_good field_code head_good head_code in_order data_octets is_full values_good next_code good_field good_accounts good_links read_end read_image
two_faults = refl
