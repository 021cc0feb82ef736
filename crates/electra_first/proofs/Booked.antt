-- The pass ran: the four, and what they book.
use mathlib.Core.Path.{◌≡◌, refl, sym, ap, subst, ◌∙◌}
use mathlib.Core.Bool.{Bool, true}
use mathlib.Core.List.{List, [], ◌∷◌, ◌++◌, map}
use Prim.Native.Nat.{ℕ, ◌+◌, ◌-◌, ◌*◌, ◌/◌, ◌<◌}
use native.Mathlib.Omega.{arith}
use lib.ListN.{length, get_or, length-map}
use Rattle.definitions.specs.declared.Settings.{Settings}
use Rattle.definitions.specs.Record.{Validator, encode, decode, nobody}
use Rattle.definitions.specs.Checked.{Checked, value, refused, bind, map_checked}
use Rattle.definitions.specs.Rules.{in_place}
use Rattle.definitions.specs.Rust.Phase0.Helpers.{get_current_epoch, get_previous_epoch}
use Rattle.definitions.specs.Rust.Altair.EpochProcessing.{process_inactivity_updates, process_rewards_and_penalties}
use Rattle.definitions_close.specs.Amounts.{booked_by_rewards}
use Rattle.laws.proofs.Checked.{not_value, value_same, bound}
use Rattle.laws.proofs.Encode.{decode-encode, length-decode, length-encode}
use Rattle.arithmetic.proofs.Laws.{bind-value}
use Rattle.laws_close.proofs.Amounts.Lists.{each-length, each_at, at_map}
use Rattle.laws_close.proofs.Amounts.Nines.{front, last}
use Rattle.laws_close.proofs.Amounts.Rewarded.{Rewarded, rewarded}
use Rattle.slashings.specs.Adjusted.{adjusted_balance}
use Rattle.registry.proofs.Epochs.{Epochs}
use Rattle.definitions_electra.specs.declared.ElectraRules.{ElectraRules}
use Rattle.definitions_electra.specs.declared.ExitChurn.{ExitChurn}
use Rattle.definitions.specs.declared.Refusal.{Refusal}
use Rattle.definitions_electra.specs.Refusals.{good_electra}
use Rattle.electra_registry.specs.declared.updates.RegistryNumbers.{RegistryNumbers}
use Rattle.electra_registry.specs.Updates.{numbers_of, Exiting}
use Rattle.electra_slashings.specs.Slashed.{slashed_registry}
use Rattle.electra_amounts.specs.Columns.{Spread}
use Rattle.survey.specs.declared.Totals.{Totals}
use Rattle.survey.specs.Sums.{TotalsOf}
use Rattle.write_turn.specs.Sweep.{sweep}
use Rattle.write_turn.specs.Steps.{Swept, carry_of}
use Rattle.write_turn.specs.declared.Plan.{Plan}
use Rattle.write_turn.specs.Written.{pay_of, churn_with, later_with}
use Rattle.write_pass.specs.Filled.{nine_by, Filled}
use Rattle.write_steps.specs.Numbers.{leak_of, plan_of, Makes}
use Rattle.write_steps.proofs.Eights.{eight_is}
use Rattle.electra_first.specs.Paid.{Paid, paid_by}
use Rattle.electra_first.specs.Taken.{exits_of, Taken, taken_by, balance_at}
use Rattle.electra_first.specs.First.{Four, four_by, NineColumns, FourRan}
use Rattle.electra_first.specs.Numbers.{numbers_by}
use Rattle.electra_first.proofs.Turning.{left, swept_balances}
use Rattle.electra_first.proofs.Fused.{out, exits_swept, plan, numbers, paid-all, four_swept}
use Rattle.electra_first.proofs.Columns.{row_at, row-rest}

-- what the four gave on the way
pub record Ways (r : ElectraRules) (s : Settings) (slot fin : ℕ) (slashings : List ℕ) (churn : ExitChurn) (vs : List Validator) (f : Four) : Type 0 where
  pub scores : process_inactivity_updates s slot fin vs ≡ value f.paid.scored
  pub rewards : process_rewards_and_penalties s s.inactivity_penalty_quotient_altair slot fin f.paid.scored ≡ value f.paid.paid
  pub exits : exits_of r slot fin churn f.paid.paid ≡ value f.taken.updated
  pub slashes : slashed_registry r.settings r.bellatrix.proportional_slashing_multiplier_bellatrix slot slashings f.taken.updated.validators ≡ value f.taken.lessened

pub ways : (r : ElectraRules) (s : Settings) (slot fin : ℕ) (slashings : List ℕ) (churn : ExitChurn) (vs : List Validator) {f : Four} → four_by r s slot fin slashings churn vs ≡ value f → Ways r s slot fin slashings churn vs f
unfolding four_by paid_by taken_by
ways r s slot fin slashings churn vs {f} e =
    let a = bound (paid_by s slot fin vs) _ e in
    let b = bound (process_inactivity_updates s slot fin vs) _ a.gave in
    let c = bound (process_rewards_and_penalties s s.inactivity_penalty_quotient_altair slot fin b.first) _ b.then in
    let d = bound (taken_by r slot fin slashings churn a.first.paid) _ a.then in
    let g = bound (exits_of r slot fin churn a.first.paid) _ d.gave in
    let h = bound (slashed_registry r.settings r.bellatrix.proportional_slashing_multiplier_bellatrix slot slashings g.first.validators) _ g.then in
    made a.first d.first (value_same d.then) b.gave c.gave (value_same c.then) g.gave h.gave (value_same h.then)
  where
    made : (p : Paid) (t : Taken) → record { paid = p; taken = t } ≡ f → {scored paid ws : List Validator} {e : Exiting} → process_inactivity_updates s slot fin vs ≡ value scored → process_rewards_and_penalties s s.inactivity_penalty_quotient_altair slot fin scored ≡ value paid → record { scored = scored; paid = paid } ≡ p → exits_of r slot fin churn p.paid ≡ value e → slashed_registry r.settings r.bellatrix.proportional_slashing_multiplier_bellatrix slot slashings e.validators ≡ value ws → record { updated = e; lessened = ws } ≡ t → Ways r s slot fin slashings churn vs f
    made p t is scores rewards paid exits slashes taken = rw (← is, ← paid, ← taken) (record { scores = scores; rewards = rewards; exits = rw (← paid) at exits; slashes = slashes })

module _ (r : ElectraRules) (s : Settings) (slot fin : ℕ) (slashings : List ℕ) (churn : ExitChurn) (is : s ≡ in_place r.bellatrix r.settings) (good : good_electra r ≡ true) (ep : Epochs r.settings slot) (eps : Epochs s slot) (opening : List ℕ) {t : Totals} (totals : TotalsOf s (get_current_epoch s slot) (get_previous_epoch s slot) (decode opening) t) (leaking : Bool) (leak : leak_of s slot fin ≡ value leaking) (adjusted : ℕ) (times : adjusted_balance r.bellatrix.proportional_slashing_multiplier_bellatrix t.active slashings ≡ value adjusted) (a b c : Checked ℕ) where
  abbrev vs : List Validator
  vs = decode opening

  abbrev p : Plan
  p = plan r s slot fin slashings churn is good ep eps (decode opening) totals leaking leak adjusted times a b c

  abbrev four : Checked Four
  four = four_by r s slot fin slashings churn (decode opening)

  module _ {closing : List ℕ} {u : Checked ExitChurn} (w : Swept (sweep (later_with s p (numbers r s slot fin slashings churn is good ep eps (decode opening) totals leaking leak adjusted times a b c)) churn (decode opening)) closing u) where
    whole : Swept (bind (four_by r s slot fin slashings churn (decode opening)) out) closing u
    whole = rw (four_swept r s slot fin slashings churn is good ep eps (decode opening) totals leaking leak adjusted times a b c) w

    is_four : u ≡ bind (four_by r s slot fin slashings churn (decode opening)) (λ f. value f.taken.updated.churn)
    unfolding bind
    is_four = whole.is ∙ go four
      where
        go : (m : Checked Four) → carry_of (bind m out) ≡ bind m (λ f. value f.taken.updated.churn)
        go (value f) = refl
        go (refused q) = refl

    closed : {f : Four} → four ≡ value f → closing ≡ encode f.taken.lessened
    closed e = whole.held _ (bind-value out e)

    pub pass_refused : {p : Refusal} {x : Checked ExitChurn} {amounts : List ℕ} → u ≡ refused p → x ≡ refused p → FourRan s slot fin (four_by r s slot fin slashings churn (decode opening)) closing amounts x
    pass_refused z h = record { is = h ∙ sym z ∙ is_four; held = λ f e. closed e; books = λ f e. absurd (not_value (sym z ∙ is_four ∙ bind-value _ e)) }

    module _ (long : length opening ≡ 10 * (length opening / 10)) (same : length closing ≡ length opening) {nine : List ℕ} (rest : List ℕ) {lent xs : List ℕ} (h : Filled s p opening closing nine) (front-is : lent ≡ nine ++ rest) (sp : Spread lent xs) (twelves : length lent ≡ 12 * (length opening / 10)) where
      module _ {f : Four} (e : four ≡ value f) where
        y : Ways r s slot fin slashings churn (decode opening) f
        y = ways r s slot fin slashings churn (decode opening) e

        paid-map : map_checked (pay_of s p) (decode opening) ≡ value f.paid.paid
        paid-map = sym (paid-all r s slot fin slashings churn is good ep eps (decode opening) totals leaking leak adjusted times a b c) ∙ bind-value _ y.scores ∙ y.rewards

        rew : Rewarded s s.inactivity_penalty_quotient_altair slot fin f.paid.scored f.paid.paid
        rew = rewarded s s.inactivity_penalty_quotient_altair slot fin f.paid.scored y.rewards

        many : length (decode opening) ≡ length opening / 10
        many = length-decode (length opening / 10) opening long

        scored-long : length f.paid.scored ≡ length (decode opening)
        scored-long = sym rew.same ∙ each-length (pay_of s p) (decode opening) paid-map

        -- the registry step leaves balances
        balances : map (λ v. v.balance) f.taken.updated.validators ≡ map (λ v. v.balance) f.paid.paid
        balances =
            let n = numbers_of r slot fin f.paid.paid in
            let m = bound (sweep (churn_with n) churn f.paid.paid) left (sym (exits_swept r slot fin churn f.paid.paid good ep) ∙ y.exits) in
            ap (λ (x : Exiting). map (λ v. v.balance) x.validators) (sym (value_same m.then)) ∙ swept_balances n churn f.paid.paid m.gave

        long-updated : length f.taken.updated.validators ≡ length (decode opening)
        long-updated = sym (length-map f.taken.updated.validators (λ v. v.balance)) ∙ ap length balances ∙ length-map f.paid.paid (λ v. v.balance) ∙ each-length (pay_of s p) (decode opening) paid-map

        balance-at : (i : ℕ) → i < length (decode opening) → balance_at f.paid.paid i ≡ balance_at f.taken.updated.validators i
        balance-at i l =
            sym (at_map (λ v. v.balance) nobody 0 f.paid.paid i (omega (arith, l, each-length (pay_of s p) (decode opening) paid-map)))
            ∙ ap (λ (xs : List ℕ). get_or xs i 0) (sym balances)
            ∙ at_map (λ v. v.balance) nobody 0 f.taken.updated.validators i (omega (arith, l, long-updated))

        module _ {es : List (List ℕ)} (booked : booked_by_rewards s s.inactivity_penalty_quotient_altair slot fin f.paid.scored ≡ value es) where
          es_long : length es ≡ length opening / 10
          es_long = ap length (sym (value_same (sym rew.are ∙ booked))) ∙ rew.long ∙ scored-long ∙ many

          row : (i : ℕ) → i < length opening / 10 → nine_by s p (get_or (decode opening) i nobody) (get_or (decode closing) i nobody) ≡ get_or es i [] ++ ((balance_at f.taken.updated.validators i - balance_at f.taken.lessened i) ∷ [])
          unfolding nine_by
          row i l =
              let in_list : i < length (decode opening) = omega (arith, l, many) in
              rw (eight_is s slot fin (decode opening) f.paid.scored y.scores scored-long totals leaking leak a b c _ 0 0 booked i in_list, each_at (pay_of s p) nobody nobody (decode opening) paid-map i in_list, ← balance-at i in_list, closed e, decode-encode f.taken.lessened)

          eight-long : (i : ℕ) → i < length opening / 10 → length (get_or es i []) ≡ 8
          eight-long i l = ap (λ (k : List (List ℕ)). length (get_or k i [])) (sym (value_same (sym rew.are ∙ booked))) ∙ rew.eight i (omega (arith, l, many, scored-long))

          columns : NineColumns es f.taken xs
          columns =
              record {
                long = sp.long ∙ twelves ∙ ap (λ (k : ℕ). 12 * k) (sym es_long);
                eight = λ i k l m. (let j : i < length opening / 10 = omega (arith, l, es_long) in
                    row_at rest h front-is sp twelves i k j (omega (arith, m)) ∙ ap (λ (x : List ℕ). get_or x k 0) (row i j) ∙ front (get_or es i []) _ k (omega (arith, m, eight-long i j)));
                ninth = λ i l. ninth-at i (below i l);
                rest = λ i k l g m. row-rest rest h front-is sp twelves i k (omega (arith, l, es_long)) g m;
              }
            where
              below : (i : ℕ) → i < length f.taken.lessened → i < length opening / 10
              below i l = omega (arith, l, ap length (closed e), length-encode f.taken.lessened, same)

              ninth-at : (i : ℕ) → i < length opening / 10 → get_or xs (12 * i + 8) 0 ≡ balance_at f.taken.updated.validators i - balance_at f.taken.lessened i
              ninth-at i j =
                  row_at rest h front-is sp twelves i 8 j (omega arith)
                  ∙ ap (λ (x : List ℕ). get_or x 8 0) (row i j)
                  ∙ ap (λ (k : ℕ). get_or (get_or es i [] ++ ((balance_at f.taken.updated.validators i - balance_at f.taken.lessened i) ∷ [])) k 0) (sym (eight-long i j))
                  ∙ last (get_or es i []) _

      pub pass_ran : {x : Checked ExitChurn} → u ≡ x → FourRan s slot fin (four_by r s slot fin slashings churn (decode opening)) closing xs x
      pass_ran same-answer = record { is = sym same-answer ∙ is_four; held = λ f e. closed e; books = λ f e. record { columns = λ es k. columns e k } }

-- By a plan and numbers as the code has them
module _ (r : ElectraRules) (s : Settings) (slot fin : ℕ) (slashings : List ℕ) (churn : ExitChurn) (is : s ≡ in_place r.bellatrix r.settings) (good : good_electra r ≡ true) (ep : Epochs r.settings slot) (eps : Epochs s slot) (opening : List ℕ) {t : Totals} (totals : TotalsOf s (get_current_epoch s slot) (get_previous_epoch s slot) (decode opening) t) (leaking : Bool) (leak : leak_of s slot fin ≡ value leaking) (adjusted : ℕ) (times : adjusted_balance r.bellatrix.proportional_slashing_multiplier_bellatrix t.active slashings ≡ value adjusted) {now was : ℕ} (current : now ≡ get_current_epoch s slot) (previous : was ≡ get_previous_epoch s slot) {k : Plan} (made : Makes s now was leaking t (adjusted / (t.active / s.effective_balance_increment)) 0 0 k) {n : RegistryNumbers} (n-is : n ≡ numbers_by r now fin t.active) {closing : List ℕ} {u : Checked ExitChurn} (w : Swept (sweep (later_with s k n) churn (decode opening)) closing u) where
  makes : Makes s (get_current_epoch s slot) (get_previous_epoch s slot) leaking t (adjusted / (t.active / s.effective_balance_increment)) 0 0 k
  makes = rw (current, previous) at made

  by-plan : Swept (sweep (later_with s (plan_of s (get_current_epoch s slot) (get_previous_epoch s slot) leaking t k.shared.per_increment k.shared.denominator k.product (adjusted / (t.active / s.effective_balance_increment)) 0 0) (numbers_by r (get_current_epoch s slot) fin t.active)) churn (decode opening)) closing u
  by-plan = subst (λ (q : Plan). Swept (sweep (later_with s q (numbers_by r (get_current_epoch s slot) fin t.active)) churn (decode opening)) closing u) makes.is (rw (n-is ∙ ap (λ (e : ℕ). numbers_by r e fin t.active) current) at w)

  pub by-refused : {p : Refusal} {x : Checked ExitChurn} {amounts : List ℕ} → u ≡ refused p → x ≡ refused p → FourRan s slot fin (four_by r s slot fin slashings churn (decode opening)) closing amounts x
  by-refused z h = pass_refused r s slot fin slashings churn is good ep eps opening totals leaking leak adjusted times k.shared.per_increment k.shared.denominator k.product by-plan z h

  pub by-ran : length opening ≡ 10 * (length opening / 10) → length closing ≡ length opening → {nine : List ℕ} (rest : List ℕ) {lent xs : List ℕ} → Filled s k opening closing nine → lent ≡ nine ++ rest → Spread lent xs → length lent ≡ 12 * (length opening / 10) → {x : Checked ExitChurn} → u ≡ x → FourRan s slot fin (four_by r s slot fin slashings churn (decode opening)) closing xs x
  by-ran long same {nine} rest h front-is sp twelves = pass_ran r s slot fin slashings churn is good ep eps opening totals leaking leak adjusted times k.shared.per_increment k.shared.denominator k.product by-plan long same rest (subst (λ (q : Plan). Filled s q opening closing nine) makes.is h) front-is sp twelves
