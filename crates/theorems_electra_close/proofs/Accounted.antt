-- Every accepted close: its amounts are a value, and they add up.
use mathlib.Core.Path.{◌≡◌, refl, sym, ap, ◌∙◌}
use mathlib.Core.Bool.{Bool, true, false}
use mathlib.Core.List.{List, [], ◌∷◌, ◌++◌}
use Prim.Native.Nat.{ℕ, zero, suc, ◌+◌, ◌*◌, ◌/◌, ◌%◌, ◌^◌, ◌≤◌, ◌<◌}
use native.Mathlib.Omega.{arith}
use borrow.Author.Tests.{ltb-true, ltb-false}
use lib.Dec.{ltb}
use lib.ListN.{length, get_or, replicate, length-append}
use lib.Seq.{get_or-append-add}
use Rattle.definitions.specs.Lists.{range}
use Rattle.definitions.specs.Record.{Validator, nobody}
use Rattle.definitions.specs.Checked.{value}
use Rattle.arithmetic.proofs.Laws.{bind-value}
use Rattle.laws_close.specs.Nine.{rewards_in, taken_in, balance_at}
use Rattle.laws_close.proofs.Amounts.Rewarded.{rewards_for, taken_for}
use Rattle.definitions_electra.specs.declared.ElectraRules.{ElectraRules}
use Rattle.definitions_electra.specs.Record.{PendingConsolidation, ElectraState}
use Rattle.definitions_electra.specs.Evaluated.Electra.EpochProcessing.{electra_step}
use Rattle.definitions_electra_close.specs.Amounts.{reward_amounts, deposit_amounts, twelve, rows, electra_amounts}
use Rattle.theorems_electra_close.specs.Accounted.{row_of, deposited_in, out_in, into_in, Exactly, Modulo, AsSummed, Accounted, EveryClose, OnMainnet}
use Rattle.laws_electra_close.proofs.Lists.{zeros, any_default, beyond, eight-all}
use Rattle.theorems_electra_close.proofs.Lists.{front_at}
use Rattle.laws_electra_close.proofs.Registry.{Left, left-then, effectives, Steady, steady_then, registry_steady}
use Rattle.laws_electra_close.proofs.Slashings.{Slashed, slashed}
use Rattle.theorems_electra_close.proofs.Deposits.{Deposited, deposited, deposit-at}
use Rattle.theorems_electra_close.proofs.Effective.{effective-left}
use Rattle.theorems_electra_close.proofs.Rows.{rows_long, row_at}
use Rattle.theorems_electra_close.proofs.Steps.{Ten, ten, two, four, five, six, Paid, paid, justification_steady, inactivity_steady, reset-left, rotation_left, Merged, merged}

-- Twelve numbers of one validator

module _ (e : List ℕ) (long : length e ≡ 8) (a b c d : ℕ) where
  abbrev four-more : List ℕ
  four-more = a ∷ b ∷ c ∷ d ∷ []

  first : (k : ℕ) → k < 8 → get_or (e ++ four-more) k 0 ≡ get_or e k 0
  first k l = front_at 0 e four-more k (omega (arith, l, long))

  then : (k : ℕ) → get_or (e ++ four-more) (8 + k) 0 ≡ get_or four-more k 0
  then k = ap (λ (n : ℕ). get_or (e ++ four-more) (n + k) 0) (sym long) ∙ get_or-append-add e four-more k 0

  twelve-rewards : rewards_in (e ++ four-more) ≡ rewards_for e
  twelve-rewards = rw (first 0 (omega arith), first 2 (omega arith), first 4 (omega arith), first 6 (omega arith)) refl

  twelve-taken : taken_in (e ++ four-more) ≡ taken_for e + a
  twelve-taken = rw (first 1 (omega arith), first 3 (omega arith), first 5 (omega arith), first 7 (omega arith), then 0) refl

effective-at : (vs : List Validator) (j : ℕ) → get_or (effectives vs) j 0 ≡ (get_or vs j nobody).effective_balance
effective-at [] j = refl
effective-at (v ∷ vs) zero = refl
effective-at (v ∷ vs) (suc j) = effective-at vs j

-- The steps, one by one

module _ {r : ElectraRules} {opening closing : ElectraState} (t : Ten r opening closing) where
  steady_scores : Steady opening t.scored
  steady_scores = steady_then (justification_steady r opening t.justifies) (inactivity_steady r t.justified t.scores)

  by-scores : Left opening t.scored
  by-scores = steady_scores.left

  by-rewards : Paid r t.scored t.paid
  by-rewards = paid r t.scored t.pays

  steady_registry : Steady t.paid t.updated
  unfolding electra_step
  steady_registry = registry_steady r t.paid t.registers

  by-registry : Left t.paid t.updated
  by-registry = steady_registry.left

  by-slashings : Slashed r t.updated t.lessened
  unfolding electra_step
  by-slashings = slashed r t.updated t.slashes

  by-deposits : Deposited r t.lessened t.applied
  unfolding electra_step
  by-deposits = deposited r t.lessened t.applies

  by-moves : Merged r t.applied t.merged
  unfolding electra_step
  by-moves = merged r t.applied t.merges

  paid-is : t.paid.altair.validators ≡ by-rewards.ws
  paid-is = ap (λ (st : ElectraState). st.altair.validators) (sym by-rewards.is)

  lessened-is : t.lessened.altair.validators ≡ by-slashings.ws
  lessened-is = ap (λ (st : ElectraState). st.altair.validators) (sym by-slashings.after_is)

  paid-long : length t.paid.altair.validators ≡ length opening.altair.validators
  paid-long = ap length paid-is ∙ by-rewards.by.same ∙ by-scores.kept.long

  lessened-long : length t.lessened.altair.validators ≡ length opening.altair.validators
  lessened-long = ap length lessened-is ∙ by-slashings.same ∙ by-registry.kept.long ∙ paid-long

  abbrev before-moves : ℕ
  before-moves = length t.applied.altair.validators

  merged-long : length t.merged.altair.validators ≡ before-moves
  merged-long = ap length by-moves.validators ∙ by-moves.loop.long

  -- Amounts by them

  abbrev eight : ℕ → List ℕ
  eight i = get_or by-rewards.by.eights i (replicate 8 0)

  abbrev ninth : ℕ → ℕ
  ninth i = get_or by-slashings.ninths i 0

  abbrev given : List ℕ
  given = deposit_amounts t.lessened.altair.validators t.applied.altair.validators

  abbrev row : ℕ → List ℕ
  row i = twelve by-rewards.by.eights by-slashings.ninths given by-moves.loop.booked i

  eight-long : (i : ℕ) → length (eight i) ≡ 8
  eight-long i = eight-all by-rewards.by.eights (λ j l. by-rewards.by.eight j (omega (arith, l, by-rewards.by.long))) i

  row-long : (i : ℕ) → length (row i) ≡ 12
  row-long i = omega (arith, length-append (eight i) (ninth i ∷ get_or given i 0 ∷ get_or by-moves.loop.booked.out i 0 ∷ get_or by-moves.loop.booked.into i 0 ∷ []), eight-long i)

  filled : List ℕ
  filled = rows row (range 0 before-moves)

  filled-long : length filled ≡ 12 * before-moves
  unfolding filled
  filled-long = rows_long row row-long 0 before-moves

  filled_at : (i : ℕ) → i < before-moves → row_of filled i ≡ row i
  unfolding filled
  filled_at i l = let e : 0 + i ≡ i = omega arith in row_at row row-long 0 before-moves i l ∙ ap row e

  amounts-are : electra_amounts r opening ≡ value filled
  unfolding electra_amounts reward_amounts filled
  amounts-are =
      bind-value _ (two t)
      ∙ bind-value _ by-rewards.by.are
      ∙ bind-value _ (four t)
      ∙ bind-value _ by-slashings.are
      ∙ bind-value _ (five t)
      ∙ bind-value _ (six t)
      ∙ bind-value _ by-moves.booked

  -- the first nine: of a new validator all are 0, and so are both balances
  nine-equal : (i : ℕ) → balance_at opening.altair.validators i + rewards_for (eight i) ≡ balance_at t.lessened.altair.validators i + (taken_for (eight i) + ninth i)
  nine-equal i = go (ltb i (length opening.altair.validators)) refl
    where
      go : (b : Bool) → ltb i (length opening.altair.validators) ≡ b → balance_at opening.altair.validators i + rewards_for (eight i) ≡ balance_at t.lessened.altair.validators i + (taken_for (eight i) + ninth i)
      go true e =
          let l = ltb-true i (length opening.altair.validators) e in
          let s : i < length t.scored.altair.validators = omega (arith, l, by-scores.kept.long) in
          let p : i < length t.paid.altair.validators = omega (arith, l, paid-long) in
          let u : i < length t.updated.altair.validators = omega (arith, p, by-registry.kept.long) in
          let same = any_default by-rewards.by.eights i (replicate 8 0) [] (omega (arith, s, by-rewards.by.long)) in
          let a = by-scores.kept.balance i l in
          let b = by-rewards.by.equal i s in
          let c = ap (λ (vs : List Validator). balance_at vs i) paid-is in
          let d = by-registry.kept.balance i p in
          let f = by-slashings.equal i u in
          let g = ap (λ (vs : List Validator). balance_at vs i) lessened-is in
          rw same (omega (arith, a, b, c, d, f, g))
      go false e =
          let l = ltb-false i (length opening.altair.validators) e in
          let a : balance_at opening.altair.validators i ≡ 0 = ap (λ (v : Validator). v.balance) (beyond opening.altair.validators i nobody l) in
          let b : balance_at t.lessened.altair.validators i ≡ 0 = ap (λ (v : Validator). v.balance) (beyond t.lessened.altair.validators i nobody (omega (arith, l, lessened-long))) in
          let c = beyond by-rewards.by.eights i (replicate 8 0) (omega (arith, l, by-rewards.by.long, by-scores.kept.long)) in
          let given-none : rewards_for (eight i) ≡ 0 = ap rewards_for c in
          let taken_none : taken_for (eight i) ≡ 0 = ap taken_for c in
          let d = beyond by-slashings.ninths i 0 (omega (arith, l, by-slashings.long, by-registry.kept.long, paid-long)) in
          omega (arith, a, b, given-none, taken_none, d)

  module _ (fits : length opening.compounding ≡ length opening.altair.validators) where
    lessened-fits : length t.lessened.compounding ≡ length t.lessened.altair.validators
    lessened-fits =
        ap (λ (st : ElectraState). length st.compounding) (sym by-slashings.after_is)
        ∙ ap length by-registry.compounding
        ∙ ap (λ (st : ElectraState). length st.compounding) (sym by-rewards.is)
        ∙ ap length by-scores.compounding
        ∙ fits
        ∙ sym lessened-long

    merged-fits : length t.merged.compounding ≡ length t.merged.altair.validators
    merged-fits = ap length by-moves.compounding ∙ by-deposits.grown.columns lessened-fits ∙ sym merged-long

    by_end : Left t.merged closing
    unfolding electra_step
    by_end = left-then (effective-left r t.merged merged-fits t.balances) (left-then (reset-left r t.balanced t.resets) (rotation_left r t.reset t.rotates))

    closing-long : length closing.altair.validators ≡ before-moves
    closing-long = by_end.kept.long ∙ merged-long

    module _ (i : ℕ) (l : i < length closing.altair.validators) where
      inside : i < before-moves
      inside = omega (arith, l, closing-long)

      abbrev then_at : (k : ℕ) → get_or (row i) (8 + k) 0 ≡ get_or (ninth i ∷ get_or given i 0 ∷ get_or by-moves.loop.booked.out i 0 ∷ get_or by-moves.loop.booked.into i 0 ∷ []) k 0
      then_at k = then (eight i) (eight-long i) (ninth i) (get_or given i 0) (get_or by-moves.loop.booked.out i 0) (get_or by-moves.loop.booked.into i 0) k

      out_at : out_in (row_of filled i) ≡ get_or by-moves.loop.plain.out i 0 % (2 ^ 64)
      out_at = ap out_in (filled_at i inside) ∙ then_at 2 ∙ by-moves.loop.out-cut i inside

      into-at : into_in (row_of filled i) ≡ get_or by-moves.loop.plain.into i 0 % (2 ^ 64)
      into-at = ap into_in (filled_at i inside) ∙ then_at 3 ∙ by-moves.loop.into-cut i inside

      sums_at : balance_at opening.altair.validators i + rewards_in (row_of filled i) + deposited_in (row_of filled i) + get_or by-moves.loop.plain.into i 0 ≡ balance_at closing.altair.validators i + taken_in (row_of filled i) + get_or by-moves.loop.plain.out i 0
      sums_at =
          let rewards = ap rewards_in (filled_at i inside) ∙ twelve-rewards (eight i) (eight-long i) (ninth i) (get_or given i 0) (get_or by-moves.loop.booked.out i 0) (get_or by-moves.loop.booked.into i 0) in
          let taken = ap taken_in (filled_at i inside) ∙ twelve-taken (eight i) (eight-long i) (ninth i) (get_or given i 0) (get_or by-moves.loop.booked.out i 0) (get_or by-moves.loop.booked.into i 0) in
          let added = ap deposited_in (filled_at i inside) ∙ then_at 1 in
          let a = nine-equal i in
          let b = deposit-at t.lessened.altair.validators t.applied.altair.validators by-deposits.grown.more by-deposits.grown.balance i inside in
          let c = by-moves.loop.equal i inside in
          let d = by_end.kept.balance i (omega (arith, inside, merged-long)) in
          let f = ap (λ (vs : List Validator). balance_at vs i) by-moves.validators in
          rw (rewards, taken, added) (omega (arith, a, b, c, d, f))

      modulo-at : Modulo opening.altair.validators closing.altair.validators (row_of filled i) i
      modulo-at = omega (arith, sums_at, out_at, into-at)

      equal-at : get_or by-moves.loop.plain.out i 0 / (2 ^ 64) ≡ get_or by-moves.loop.plain.into i 0 / (2 ^ 64) → Exactly opening.altair.validators closing.altair.validators (row_of filled i) i
      equal-at a = omega (arith, sums_at, out_at, into-at, a)

      only_at : Exactly opening.altair.validators closing.altair.validators (row_of filled i) i → get_or by-moves.loop.plain.out i 0 / (2 ^ 64) ≡ get_or by-moves.loop.plain.into i 0 / (2 ^ 64)
      only_at a = omega (arith, sums_at, out_at, into-at, a)

      within-at : get_or by-moves.loop.plain.out i 0 < 2 ^ 64 → get_or by-moves.loop.plain.into i 0 < 2 ^ 64 → AsSummed opening.altair.validators closing.altair.validators (row_of filled i) by-moves.loop.plain i
      within-at a b = (omega (arith, out_at, a), omega (arith, into-at, b), equal-at (omega (arith, a, b)))

    queue-is : t.applied.pending_consolidations ≡ opening.pending_consolidations
    queue-is =
        by-deposits.queue
        ∙ ap (λ (st : ElectraState). st.pending_consolidations) (sym by-slashings.after_is)
        ∙ by-registry.queue
        ∙ ap (λ (st : ElectraState). st.pending_consolidations) (sym by-rewards.is)
        ∙ by-scores.queue

    -- no effective balance is raised before the consolidations but by a deposit that adds
    lessened-effective : effectives t.lessened.altair.validators ≡ effectives opening.altair.validators
    lessened-effective =
        ap effectives lessened-is ∙ by-slashings.effective ∙ steady_registry.effective ∙ ap effectives paid-is ∙ by-rewards.effective ∙ steady_scores.effective

    module _ (most : ℕ) (h : (j : ℕ) → (get_or opening.altair.validators j nobody).effective_balance ≤ most) (m : r.electra.min_activation_balance ≤ most) (n : r.electra.max_effective_balance_electra ≤ most) where
      applied-below : (j : ℕ) → (get_or t.applied.altair.validators j nobody).effective_balance ≤ most
      applied-below =
          by-deposits.grown.below most m n
          (λ j.
          let e = sym (effective-at t.lessened.altair.validators j) ∙ ap (λ (xs : List ℕ). get_or xs j 0) lessened-effective ∙ effective-at opening.altair.validators j in
          rw e (h j))

      short-at : most * length opening.pending_consolidations < 2 ^ 64 → (i : ℕ) → i < length closing.altair.validators → AsSummed opening.altair.validators closing.altair.validators (row_of filled i) by-moves.loop.plain i
      short-at few i l =
          let k = by-moves.loop.most most applied-below i (inside i l) in
          let z = zeros before-moves i in
          let q : most * length t.applied.pending_consolidations ≡ most * length opening.pending_consolidations = ap (λ (cs : List PendingConsolidation). most * length cs) queue-is in
          within-at i l (omega (arith, k.0, z, q, few)) (omega (arith, k.1, z, q, few))

    all : Accounted r opening closing
    all =
        record {
          filled = filled;
          are = amounts-are;
          long = filled-long ∙ ap (λ (n : ℕ). 12 * n) (sym closing-long);
          added = omega (arith, closing-long, by-deposits.grown.more, lessened-long);
          applied = t.applied;
          finds = six t;
          plain = by-moves.loop.plain;
          moves = by-moves.plain;
          out = out_at;
          into = into-at;
          sums = sums_at;
          modulo = modulo-at;
          equal = equal-at;
          only = only_at;
          within = within-at;
          short = short-at;
        }

pub accounted : EveryClose
accounted r opening closing fits e = all (ten r opening e) fits

pub accounted-mainnet : OnMainnet
accounted-mainnet opening closing law h few i l = (law.short 2_048_000_000_000 h (omega arith) (omega arith) (omega (arith, few)) i l).2
