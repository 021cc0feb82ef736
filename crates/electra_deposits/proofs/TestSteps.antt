-- The paths of the test of one deposit.
use mathlib.Core.Path.{◌≡◌, refl}
use mathlib.Core.Bool.{Bool, true, false, ◌&&◌}
use mathlib.Core.List.{List}
use Prim.Native.Nat.{ℕ, ◌+◌, ◌-◌, ◌≤◌, ◌<◌, ◌^◌}
use native.Mathlib.Omega.{arith}
use borrow.Author.Tests.{lt-ltb, le-ltb, eq-eqb, ne_eqb}
use lib.Dec.{ltb, eqb}
use lib.ListN.{set}
use Rattle.definitions_electra.specs.declared.PendingDeposit.{PendingDeposit}
use Rattle.electra_deposits.specs.declared.adding.NewNumbers.{NewNumbers}
use Rattle.electra_deposits.specs.Room.{place_by, effective_by}
use Rattle.electra_deposits.specs.Testing.{marked, Turn, turn, known_at, new_at, test_at, Turned}
use Rattle.laws_electra.proofs.Cases.{test_or}

-- the code's tests, without a sum that could leave 64 bits

pub over-one : (downward place amount : ℕ) → 18446744073709551615 - downward < amount → 2 ^ 64 ≤ place - 1 + amount + downward
over-one downward place amount h = omega arith

pub over-two : (downward place amount : ℕ) → 18446744073709551615 - downward - amount < place - 1 → 2 ^ 64 ≤ place - 1 + amount + downward
over-two downward place amount h = omega arith

pub under : (downward place amount : ℕ) → downward ≤ 18446744073709551615 → amount ≤ 18446744073709551615 - downward → place - 1 ≤ 18446744073709551615 - downward - amount → place - 1 + amount + downward < 2 ^ 64
under downward place amount a b c = omega arith

turned : {t : Turn} {ps : List ℕ} {a : ℕ} {f : Bool} → t ≡ turn ps a f → Turned t ps (record { added = a; fits = f })
turned e = rw e (record { places = refl; added = refl; fits = refl })

module _ (k : NewNumbers) (n downward upward : ℕ) (ps : List ℕ) (d : PendingDeposit) where
  pub test-old : d.pubkey < n → Turned (test_at k n downward upward ps d) ps (record { added = 0; fits = true })
  unfolding test_at
  test-old l = turned (rw (lt-ltb d.pubkey n l))

  module _ (l : n ≤ d.pubkey) where
    module _ (z : place_by n ps d.pubkey ≡ 0 → ⊥) where
      known : test_at k n downward upward ps d ≡ known_at n downward ps d
      unfolding test_at
      known = rw (le-ltb d.pubkey n l, ne_eqb (place_by n ps d.pubkey) 0 z)

      pub test_free : downward ≡ 0 → Turned (test_at k n downward upward ps d) ps (record { added = 0; fits = true })
      unfolding known_at
      test_free e = rw known (turned (rw (eq-eqb downward 0 e)))

      pub test-over : (downward ≡ 0 → ⊥) → 2 ^ 64 ≤ place_by n ps d.pubkey - 1 + d.amount + downward → Turned (test_at k n downward upward ps d) ps (record { added = 0; fits = false })
      unfolding known_at
      test-over e f = rw known (turned (rw (ne_eqb downward 0 e, le-ltb (place_by n ps d.pubkey - 1 + d.amount + downward) (2 ^ 64) f)))

      pub test-more : (downward ≡ 0 → ⊥) → place_by n ps d.pubkey - 1 + d.amount + downward < 2 ^ 64 → Turned (test_at k n downward upward ps d) (set ps (d.pubkey - n) (place_by n ps d.pubkey + d.amount)) (record { added = 0; fits = true })
      unfolding known_at
      test-more e f = rw known (turned (rw (ne_eqb downward 0 e, lt-ltb (place_by n ps d.pubkey - 1 + d.amount + downward) (2 ^ 64) f)))

    module _ (z : place_by n ps d.pubkey ≡ 0) where
      pub test-invalid : (d.valid ≡ 1 → ⊥) → Turned (test_at k n downward upward ps d) ps (record { added = 0; fits = true })
      unfolding test_at
      test-invalid f = turned (rw (le-ltb d.pubkey n l, eq-eqb (place_by n ps d.pubkey) 0 z, ne_eqb d.valid 1 f))

      module _ (v : d.valid ≡ 1) where
        new : test_at k n downward upward ps d ≡ new_at k n downward upward ps d
        unfolding test_at
        new = rw (le-ltb d.pubkey n l, eq-eqb (place_by n ps d.pubkey) 0 z, eq-eqb d.valid 1 v)

        pub test_low : 2 ^ 64 ≤ d.amount + downward → Turned (test_at k n downward upward ps d) ps (record { added = 0; fits = false })
        unfolding new_at
        test_low f = rw new (turned (rw (le-ltb (d.amount + downward) (2 ^ 64) f)))

        module _ {effective : ℕ} (g : effective ≡ effective_by k d) (low : d.amount + downward < 2 ^ 64) where
          pub test-high : 2 ^ 64 ≤ effective + upward → Turned (test_at k n downward upward ps d) ps (record { added = 0; fits = false })
          unfolding new_at
          test-high f = rw new (turned (rw (lt-ltb (d.amount + downward) (2 ^ 64) low, le-ltb (effective_by k d + upward) (2 ^ 64) (rw g at f))))

          pub test-new : {x : ℕ} → effective + upward < 2 ^ 64 → x ≡ marked downward d.amount → Turned (test_at k n downward upward ps d) (set ps (d.pubkey - n) x) (record { added = 1; fits = true })
          unfolding new_at
          test-new f e = rw (new, e) (turned (rw (lt-ltb (d.amount + downward) (2 ^ 64) low, lt-ltb (effective_by k d + upward) (2 ^ 64) (rw g at f))))

pub added-most : (k : NewNumbers) (n downward upward : ℕ) (ps : List ℕ) (d : PendingDeposit) → (test_at k n downward upward ps d).added ≤ 1
unfolding test_at new_at known_at
added-most k n downward upward ps d =
    test_or (ltb d.pubkey n) (λ e. rw e (omega arith)) (λ e. rw e (test_or (eqb (place_by n ps d.pubkey) 0)
    (λ f. rw f (test_or (eqb d.valid 1) (λ g. rw g (test_or (ltb (d.amount + downward) (2 ^ 64) && ltb (effective_by k d + upward) (2 ^ 64)) (λ h. rw h (omega arith)) (λ h. rw h (omega arith)))) (λ g. rw g (omega arith))))
    (λ f. rw f (test_or (eqb downward 0) (λ g. rw g (omega arith)) (λ g. rw g (test_or (ltb (place_by n ps d.pubkey - 1 + d.amount + downward) (2 ^ 64)) (λ h. rw h (omega arith)) (λ h. rw h (omega arith))))))))
