-- The kinds of fields after the head, by their tags.
use Rattle.std.specs.Prelude.{ℕ, eqb, Result, Ok, Err, if◌then◌else◌}
use Rattle.codes.specs.declared.Fault.{Fault}
use Rattle.codes.specs.declared.Fault.TheVariants.{WrongTag}
use Rattle.image_layout.specs.Layout.{account_tag, link_tag, end_tag}
use Rattle.image_field.specs.declared.kind.Kind.{Kind}
use Rattle.image_field.specs.declared.kind.Kind.TheVariants.{Account, Link, End}

-- the tag of a kind, and the kind of a tag
abbrev pub kind_number : Kind → ℕ
kind_number Account = account_tag
kind_number Link = link_tag
kind_number End = end_tag

unfoldable pub kind_of : ℕ → Result Kind Fault
kind_of tag =
    if eqb tag account_tag then Ok Account
    else if eqb tag link_tag then Ok Link
    else if eqb tag end_tag then Ok End
    else Err WrongTag
