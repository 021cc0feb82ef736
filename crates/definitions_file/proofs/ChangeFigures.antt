-- Figures of the net change, by computing: document 02's, no change, both ends of the range and one beyond either. `negsuc n` is -(n + 1).
use mathlib.Core.Path.{◌≡◌, refl}
use lib.IntN.{pos, negsuc}
use Rattle.definitions.specs.Checked.{value, refused}
use Rattle.definitions.specs.declared.Refusal.TheVariants.{SignedOverflow}
use Rattle.definitions.specs.NetChange.{fits_signed, net_change}

pub record Figures : Type 0 where
  -- "Validator 4 in the listing shows -3200000."
  pub validator_4 : net_change 32000000000 31996800000 ≡ value (negsuc 3199999)
  pub none : net_change 32000000000 32000000000 ≡ value (pos 0)
  -- "Both ends of the signed range are allowed."
  pub most : net_change 0 9223372036854775807 ≡ value (pos 9223372036854775807)
  pub beyond-most : net_change 0 9223372036854775808 ≡ refused SignedOverflow
  pub least : net_change 9223372036854775808 0 ≡ value (negsuc 9223372036854775807)
  pub beyond-least : net_change 9223372036854775809 0 ≡ refused SignedOverflow
  -- what largest_loss and refused_7 of the samples lose
  pub sample-least : net_change 18446744073709551615 9223372036854775807 ≡ value (negsuc 9223372036854775807)
  pub sample-beyond : net_change 18446744073709551615 9223372036854775806 ≡ refused SignedOverflow

pub figures : Figures
unfolding net_change fits_signed
figures =
    record {
      validator_4 = refl;
      none = refl;
      most = refl;
      beyond-most = refl;
      least = refl;
      beyond-least = refl;
      sample-least = refl;
      sample-beyond = refl;
    }
