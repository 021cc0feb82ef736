-- A record that passed the tests of the whole close passes them after each step, so that no later call is turned away.
use mathlib.Core.Path.{◌≡◌, refl, sym, ap, ◌∙◌}
use mathlib.Core.Bool.{true, ◌&&◌}
use mathlib.Core.List.{List}
use Prim.Native.Nat.{ℕ, ◌*◌, ◌/◌, ◌%◌, ◌^◌}
use native.Mathlib.Omega.{arith}
use borrow.Author.Tests.{eq-eqb}
use lib.Dec.{leb, eqb}
use lib.ListN.{length}
use Rattle.definitions.specs.declared.Settings.{Settings}
use Rattle.definitions.specs.Lists.{all, every}
use Rattle.definitions.specs.Record.{BeaconState, encode}
use Rattle.definitions.specs.Checked.{value, bind}
use Rattle.definitions.specs.Refusals.{in_order, registry_shaped, good_finality, good_validator, good_registry}
use Rattle.definitions.specs.ExitQueue.{queue_of, is_queue_of, queue_test}
use Rattle.definitions.specs.Close.{Step, step, state_of, close_tests, limited_tests}
use Rattle.definitions_close.specs.FullClose.{FullCall, full_tests, limited_full_tests}
use Rattle.laws.proofs.Encode.{length-encode, decode-encode, length-decode}
use Rattle.laws_close.proofs.Kept.{kept_step}
use Rattle.laws_close.proofs.Passed.{Passed}

-- the record of a state as a later call tests it: the opening stands in the place of the closing buffers
abbrev pub record_at : FullCall → BeaconState → List ℕ → FullCall
record_at c st amounts =
    record {
      call = record {
        rules = c.call.rules;
        finality = st.finality;
        registry = encode st.validators;
        slashings = st.slashings;
        roots = c.call.roots;
        closing_registry = c.call.registry;
        closing_slashings = c.call.slashings;
      };
      queue = queue_of st.validators;
      amounts = amounts;
    }

-- A state on the way

pub record Sound (c : FullCall) (st : BeaconState) : Type 0 where
  pub finality : good_finality st.finality ≡ true
  pub validators : all good_validator st.validators ≡ true
  pub many : length st.validators ≡ length c.call.registry / 10
  pub slashings : length st.slashings ≡ length c.call.slashings
  pub roots : st.block_roots ≡ c.call.roots

pub sound-opening : (c : FullCall) → Passed c → Sound c (state_of c.call)
sound-opening c p =
    record {
      finality = p.finality;
      validators = p.validators;
      many = length-decode (length c.call.registry / 10) c.call.registry p.registry.long;
      slashings = refl;
      roots = refl;
    }

pub sound-step : (c : FullCall) (s : Settings) (k : Step) (a b : BeaconState) → Sound c a → step s a k ≡ value b → Sound c b
sound-step c s k a b h p =
    let e = kept_step s k a b p in
    record {
      finality = e.finality h.finality;
      validators = e.validators h.validators;
      many = e.many ∙ h.many;
      slashings = e.slashings ∙ h.slashings;
      roots = e.roots ∙ h.roots;
    }

-- It passes them again

pub shaped_as : (xs ys : List ℕ) → length ys ≡ length xs → registry_shaped ys ≡ registry_shaped xs
unfolding registry_shaped
shaped_as xs ys e = ap (λ (n : ℕ). eqb (n % 10) 0 && leb (n / 10) (2 ^ 24)) e

pub long_as : (c : FullCall) (st : BeaconState) → Passed c → Sound c st → length (encode st.validators) ≡ length c.call.registry
long_as c st p h = omega (arith, length-encode st.validators, h.many, p.registry.long)

module _ (c : FullCall) (st : BeaconState) (xs : List ℕ) (p : Passed c) (h : Sound c st) where
  close-again : close_tests (record_at c st xs).call ≡ value tt
  unfolding limited_tests in_order good_registry every
  close-again =
      rw (p.rules, shaped_as c.call.registry (encode st.validators) (long_as c st p h) ∙ p.registry_shape, p.roots, ap (λ (n : ℕ). eqb n c.call.rules.settings.epochs_per_slashings_vector) h.slashings ∙ p.slashings, eq-eqb (length c.call.registry) (length (encode st.validators)) (sym (long_as c st p h)), eq-eqb (length c.call.slashings) (length st.slashings) (sym h.slashings), p.good_rules, h.finality, decode-encode st.validators, h.validators)

  pub tested-again : length xs ≡ length c.amounts → full_tests (record_at c st xs) ≡ value tt
  unfolding limited_full_tests bind queue_test is_queue_of
  tested-again l =
      rw (eq-eqb (length xs) (9 * (length (encode st.validators) / 10)) (l ∙ p.amounts ∙ ap (λ (n : ℕ). 9 * (n / 10)) (sym (long_as c st p h))), close-again, decode-encode st.validators, eq-eqb (queue_of st.validators).last_epoch _ refl, eq-eqb (queue_of st.validators).number _ refl)
