-- Demand 2's figures: limits at both sides, formulas, formats spelled and read back, and the starred cases of the bench sheet
-- (document 01; document 02, Q-3). They bind the definitions, so that a wrong definition is refused even where the code is wrong
-- alike. Proved in proofs/Demands.antt.
use Rattle.codes.specs.Claims.{CodeFigures}
use Rattle.lists.specs.Claims.{FirstFits}
use Rattle.octets.specs.Claims.{ReadsBack, WritesBack}
use Rattle.rows.specs.Claims.{RowsInUse, FirstRowCounts}
use Rattle.fields.specs.Claims.{FieldReadsBack, FieldSpelled, FieldFigures}
use Rattle.frame.specs.Claims.{LengthLimits, ReadingCodes, PayloadLength, FrameReadsBack, FrameFigures}
use Rattle.terms.specs.Claims.{BagFigures, FormulasByMode, CapacityLargest, CostLargest, TermsLimits, CheckedMethods}
use Rattle.account.specs.Claims.{SoundLimits}
use Rattle.account.specs.Methods.{SoundMethods}
use Rattle.account_rule.specs.Bench.{BenchTable}
use Rattle.tables.specs.Claims.{AccountReadsBack, LinkReadsBack, RowFigures, ConfigParts, SettingsParts}
use Rattle.tables_rules.specs.Claims.{LinkSoundExactly, PortBits, NumbersRise, RowsGoodExactly, SizesWithinSmax}
use Rattle.tables_rules.specs.Claims.{LinkRefused, LinkAccepted}
use Rattle.image_layout.specs.Claims.{ImageFigures, ConstantLimits, ConstantByFirst}
use Rattle.image_fill.specs.Claims.{RunParts}
use Rattle.switch.specs.Claims.{CallParts}
use Rattle.image_read.specs.Bench.{ImagePReads, CaseThirteen, CutImages, FaultyImages, TwoFaults}
use Rattle.demands.specs.Bench.{CallBenchTable, CaseTwelve}

-- numbers in octets ("What the box covers"), tagged fields ("The configuration image"; "The replay program"), frames ("The
-- frame"), rows of accounts and links: each spelled from its values and read back, and in figures
pub record Formats : Type 0 where
  pub octets_read : ReadsBack
  pub octets_written : WritesBack
  pub fields_read : FieldReadsBack
  pub fields_spelled : FieldSpelled
  pub fields : FieldFigures
  pub frames_read : FrameReadsBack
  pub frame : FrameFigures
  pub accounts_read : AccountReadsBack
  pub links_read : LinkReadsBack
  pub rows : RowFigures

-- what calls are lent and leave, each part by its name
pub record Parts : Type 0 where
  pub config : ConfigParts
  pub settings : SettingsParts
  pub runs : RunParts
  pub call : CallParts

-- the value rules and the formulas ("Accounts and links"; "Credit, in whole units")
pub record Values : Type 0 where
  pub terms : TermsLimits
  pub checked : CheckedMethods
  pub sound : SoundLimits
  pub sound_methods : SoundMethods
  pub bags : BagFigures
  pub formulas : FormulasByMode
  pub capacity : CapacityLargest
  pub cost : CostLargest
  pub links : LinkSoundExactly
  pub port_bits : PortBits
  pub numbers_rise : NumbersRise
  pub rows_good : RowsGoodExactly
  pub sizes : SizesWithinSmax
  pub links_refused : LinkRefused
  pub links_accepted : LinkAccepted

-- the rest: codes and tables of codes, lengths, rows, image P with and without faults, the bench sheet
pub record Figures : Type 0 where
  pub formats : Formats
  pub values : Values
  pub parts : Parts
  pub codes : CodeFigures
  pub first_fits : FirstFits
  pub lengths : LengthLimits
  pub reading : ReadingCodes
  pub payload : PayloadLength
  pub rows_in_use_lem : RowsInUse
  pub first_row : FirstRowCounts
  pub image : ImageFigures
  pub constants : ConstantLimits
  pub constants_by_first : ConstantByFirst
  pub image_p_lem : ImagePReads
  pub case_thirteen : CaseThirteen
  pub cut_images : CutImages
  pub faulty_images : FaultyImages
  pub two_faults : TwoFaults
  pub steps : BenchTable
  pub calls : CallBenchTable
  pub case_twelve : CaseTwelve
