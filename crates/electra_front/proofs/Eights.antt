-- The first five, then the later three: the text's ten, of which the last two are never refused.
use mathlib.Core.Path.{◌≡◌, refl, sym, ap, ◌∙◌}
use mathlib.Core.List.{List}
use Prim.Native.Nat.{ℕ, ◌+◌, ◌*◌, ◌/◌, ◌<◌}
use native.Mathlib.Omega.{arith}
use lib.ListN.{length, get_or, replicate, get_or-replicate}
use Rattle.definitions.specs.declared.Finality.{Finality}
use Rattle.definitions.specs.Record.{decode}
use Rattle.definitions.specs.Checked.{Checked, value, refused, bind, done}
use Rattle.definitions.specs.declared.Refusal.{Refusal}
use Rattle.definitions.specs.Rust.Altair.EpochProcessing.{process_justification_and_finalization}
use Rattle.definitions.specs.Close.{justification_step, limited_step}
use Rattle.laws.proofs.Frame.Slot.{slot_step}
use Rattle.laws.proofs.Checked.{value_same, Bound, bound}
use Rattle.laws.proofs.Encode.{length-encode, length-decode, decode-encode}
use Rattle.laws_close.proofs.Amounts.Rewarded.{rewarded}
use Rattle.definitions_close.specs.Amounts.{booked_by_rewards}
use Rattle.arithmetic.proofs.Laws.{bind-value, bind-refused}
use Rattle.definitions_electra.specs.declared.ElectraRules.{ElectraRules}
use Rattle.definitions_electra.specs.declared.ExitChurn.{ExitChurn}
use Rattle.definitions_electra.specs.declared.DepositNumbers.{DepositNumbers}
use Rattle.definitions_electra.specs.Record.{ElectraState}
use Rattle.definitions_electra.specs.Evaluated.Electra.EpochProcessing.{process_epoch}
use Rattle.electra_first.specs.declared.First.{First}
use Rattle.electra_consolidations.specs.Consolidations.{placed}
use Rattle.electra_consolidations.specs.Moves.{moved_to, column}
use Rattle.electra_first.specs.First.{Five, five_by, after_five, first_of, FirstHeld, FirstRan}
use Rattle.electra_first.proofs.Stops.{first-lost, not_given}
use Rattle.electra_steps.specs.Last.{Six, six_by, after_six, Eight, seven_eight, after_eight, after_ten, under}
use Rattle.electra_steps.specs.Finds.{Finds}
use Rattle.electra_steps.proofs.InPlace.{raised-same, test-same}
use Rattle.electra_steps.proofs.Whole.{whole}
use Rattle.electra_steps.proofs.Parted.{found, parted}
use Rattle.electra_sixth.specs.Named.{NoneYet}
use Rattle.electra_sixth.specs.Sixth.{AsLent}
use Rattle.electra_front.specs.declared.Later.{Later}
use Rattle.electra_front.specs.declared.Front.{Front}
use Rattle.electra_front.specs.Later.{later_of, LaterOf, LaterRan}
use Rattle.electra_front.specs.Front.{opening_of, FrontLent, FrontHeld, FrontRan}
use Rattle.electra_twelve.proofs.Moves.{column-same}
use Rattle.electra_twelve.proofs.Between.{between}
use Rattle.electra_front.proofs.Threes.{movements-same}

-- whether a chain is refused, whatever is worked out of what it gives
tested-alike : {A B C D : Type 0} (m : Checked A) (k : A → Checked B) (f : A → B → C) (g : A → B → D) → done (bind m (λ a. bind (k a) (λ b. value (f a b)))) ≡ done (bind m (λ a. bind (k a) (λ b. value (g a b))))
unfolding bind
tested-alike {A} {B} {C} {D} m k f g = go m
  where
    on : (w : Checked B) (a : A) → done (bind w (λ b. value (f a b))) ≡ done (bind w (λ b. value (g a b)))
    on (value b) a = refl
    on (refused p) a = refl

    go : (m : Checked A) → done (bind m (λ a. bind (k a) (λ b. value (f a b)))) ≡ done (bind m (λ a. bind (k a) (λ b. value (g a b))))
    go (value a) = on (k a) a
    go (refused p) = refl

module _ (r : ElectraRules) (f : Finality) (churn : ExitChurn) (numbers : DepositNumbers) (registry compounding slashings roots deposits pairs : List ℕ) {closing₀ amounts₀ places : List ℕ}
    (lent : FrontLent r f registry compounding roots deposits pairs closing₀ amounts₀ places) {first : Checked First} {closing₁ amounts₁ : List ℕ} (long : length closing₁ ≡ 10 * length compounding) (wide : length amounts₁ ≡ 12 * length compounding)
    (h : FirstRan (under r) f (decode registry) (five_by r (under r) f churn (decode registry) slashings roots) closing₁ amounts₁ first) where
  abbrev n : ℕ
  n = length compounding

  abbrev st : ElectraState
  st = opening_of f churn numbers registry compounding slashings roots deposits pairs

  abbrev five : Checked Five
  five = five_by r (under r) f churn (decode registry) slashings roots

  many : length (decode registry) ≡ n
  many = length-decode n registry lent.tens

  -- as many as before
  lessened : (v : Five) → five ≡ value v → length v.four.taken.lessened ≡ n
  lessened v e = let l = length-encode v.four.taken.lessened in let c = ap length (h.held v e).registry in omega (arith, l, c, long)

  finds : (v : Five) → five ≡ value v → Finds n deposits (after_five st v)
  finds v e = record { validators = lessened v e; keys = rw many; credentials = refl; queue = refl }

  abbrev rest : (v : Five) → Six → Eight → ElectraState
  rest v x y = after_ten r (after_eight (after_six (after_five st v) x) y)

  all-ten : process_epoch r st ≡ bind five (λ v. bind (six_by r (after_five st v)) (λ x. bind (seven_eight r n (after_five st v) x) (λ y. value (rest v x y))))
  unfolding placed
  all-ten = whole r st n lent.later.within (λ v e x s. parted r n compounding (after_five st v) (found (finds v e)) x s)

  -- the slot stays
  slot_kept : {g : Finality} → process_justification_and_finalization (under r) roots f (decode registry) ≡ value g → g.slot ≡ f.slot
  unfolding limited_step bind
  slot_kept {g} e = slot_step (under r) justification_step st.altair (record { finality = g; validators = decode registry; slashings = slashings; block_roots = roots }) (rw e)

  pub first-refused : {p : Refusal} {x : Checked Front} {closing amounts : List ℕ} → first ≡ refused p → x ≡ refused p → FrontRan r st n deposits pairs closing amounts x
  first-refused z e =
      let k = first-lost five (first_of (under r) f (decode registry)) (sym h.is ∙ z) in
      record { is = ap done e ∙ sym (ap done (all-ten ∙ bind-refused _ k)); held = λ w q. absurd (not_given e q) }

  module _ {o : First} (z : first ≡ value o) where
    did : Bound (five_by r (under r) f churn (decode registry) slashings roots) (λ v. value (first_of (under r) f (decode registry) v)) o
    did = bound five (λ v. value (first_of (under r) f (decode registry) v)) (sym h.is ∙ z)

    abbrev v : Five
    v = did.first

    told : first_of (under r) f (decode registry) v ≡ o
    told = value_same did.then

    held : FirstHeld (under r) v closing₁ amounts₁
    held = h.held v did.gave

    -- nothing is booked of the deposits
    pub none_yet : NoneYet (length compounding) amounts₁
    none_yet =
        let w = rewarded (under r) (under r).inactivity_penalty_quotient_altair v.finality.slot v.finality.finalized_checkpoint.epoch v.four.paid.scored (between r st did.gave).pays in
        let k = held.nine.columns w.eights w.are in
        let as_many : length w.eights ≡ n = omega (arith, k.long, wide) in
        record { tenth = λ i o. k.rest i 9 (omega (arith, o, as_many)) (omega arith) (omega arith); eleventh = λ i o. k.rest i 10 (omega (arith, o, as_many)) (omega arith) (omega arith) }

    module _ {closing amounts : List ℕ} {l : Checked Later} (g : LaterRan r o.finality.slot o.finality.finalized_checkpoint.epoch numbers compounding deposits pairs closing₁ closing amounts₁ amounts l) where
      back : decode closing₁ ≡ v.four.taken.lessened
      back = ap decode held.registry ∙ decode-encode v.four.taken.lessened

      finality-is : o.finality ≡ v.finality
      finality-is = sym (ap (λ (x : First). x.finality) told)

      as_lent : AsLent o.finality.slot o.finality.finalized_checkpoint.epoch numbers closing₁ deposits (after_five st v)
      as_lent =
          let t : length closing₁ / 10 ≡ n = omega (arith, long) in
          record {
            slot = ap (λ (k : Finality). k.slot) (sym finality-is);
            finalized = ap (λ (k : Finality). k.finalized_checkpoint.epoch) (sym finality-is);
            validators = sym back;
            carried = refl;
            bridge = refl;
            requests = refl;
            finds = rw t (finds v did.gave);
          }

      later : LaterOf r (after_five st v) n deposits pairs closing₁ closing amounts₁ amounts l
      later = g.ran (after_five st v) as_lent refl refl

      tests-is : done l ≡ done (process_epoch r st)
      tests-is = ap done later.is ∙ tested-alike (six_by r (after_five st v)) (seven_eight r n (after_five st v)) later_of (rest v) ∙ sym (ap done (all-ten ∙ bind-value _ did.gave))

      pub later-refused : {p : Refusal} {x : Checked Front} → l ≡ refused p → x ≡ refused p → FrontRan r st n deposits pairs closing amounts x
      later-refused k e = record { is = ap done e ∙ sym (ap done k) ∙ tests-is; held = λ w q. absurd (not_given e q) }

      -- what the rewards booked
      rewards : (es : List (List ℕ)) × (booked_by_rewards (under r) (under r).inactivity_penalty_quotient_altair v.finality.slot v.finality.finalized_checkpoint.epoch v.four.paid.scored ≡ value es)
      rewards =
          let w = rewarded (under r) (under r).inactivity_penalty_quotient_altair v.finality.slot v.finality.finalized_checkpoint.epoch v.four.paid.scored (between r st did.gave).pays in
          (w.eights, w.are)

      module _ {w : Later} (k : l ≡ value w) where
        abbrev answer : Front
        answer =
            record { finality = o.finality; raised = o.raised; test = o.test; churn = o.churn; next_epoch = w.next_epoch; index = w.index; left = w.left; done = w.done }

        made : FrontHeld r st n deposits pairs closing amounts answer
        made =
            let b = bound _ _ (sym later.is ∙ k) in
            let c = bound _ _ b.then in
            let ws : later_of b.first c.first ≡ w = value_same c.then in
            let m = later.held b.first b.gave c.first c.gave in
            let index-is : w.index ≡ b.first.processing.next_deposit_index = sym (ap (λ (x : Later). x.index) ws) in
            let done-is : w.done ≡ c.first.moved.next_pending_consolidation = sym (ap (λ (x : Later). x.done) ws) in
            let k = held.nine.columns rewards.0 rewards.1 in
            let as_many : length rewards.0 ≡ n = omega (arith, k.long, wide) in
            record {
              v = v;
              five = did.gave;
              x = b.first;
              six = b.gave;
              y = c.first;
              eight = c.gave;
              closes = all-ten ∙ bind-value _ did.gave ∙ bind-value _ b.gave ∙ bind-value _ c.gave;
              finds = finds v did.gave;
              slot = slot_kept (between r st did.gave).justifies;
              registry = m.registry;
              finality = finality-is;
              raised = sym (ap (λ (x : First). x.raised) told) ∙ raised-same r.bellatrix r.settings f.slot (decode registry);
              test = sym (ap (λ (x : First). x.test) told) ∙ test-same r.bellatrix r.settings f v.finality;
              churn = sym (ap (λ (x : First). x.churn) told);
              next = sym (ap (λ (x : Later). x.next_epoch) ws);
              index = index-is;
              few = omega (arith, m.few, index-is);
              left = sym (ap (λ (x : Later). x.left) ws);
              done = done-is;
              most = omega (arith, m.most, done-is);
              long = m.long ∙ wide;
              eights = λ es q i j o p. (let c = held.nine.columns es q in m.nine i j (omega (arith, p)) ∙ c.eight i j (omega (arith, o, c.long, wide)) p);
              ninth = λ i o. m.nine i 8 (omega arith) ∙ k.ninth i (omega (arith, o, lessened v did.gave));
              tenth = λ i o. m.tenth i o ∙ rw back;
              moves = movements-same _ n _ pairs (replicate (12 * n) 0) amounts₁ (zeros 10 (omega arith) (λ i o. k.rest i 10 (omega (arith, o, as_many)) (omega arith) (omega arith))) (zeros 11 (omega arith) (λ i o. k.rest i 11 (omega (arith, o, as_many)) (omega arith) (omega arith))) ∙ m.moves ∙ ap (λ (x : Later). value (moved_to n c.first.moved.validators x.done amounts)) ws;
            }
          where
            zeros : (j : ℕ) → j < 12 → ((i : ℕ) → i < n → get_or amounts₁ (12 * i + j) 0 ≡ 0) → column j n (replicate (12 * n) 0) ≡ column j n amounts₁
            zeros j u o = column-same j n (replicate (12 * n) 0) amounts₁ (λ i b. get_or-replicate (12 * n) (12 * i + j) 0 0 (omega (arith, u, b)) ∙ sym (o i b))

        pub goes : FrontRan r st n deposits pairs closing amounts (value (record { finality = o.finality; raised = o.raised; test = o.test; churn = o.churn; next_epoch = w.next_epoch; index = w.index; left = w.left; done = w.done }))
        goes = record { is = sym (ap done k) ∙ tests-is; held = λ y q. (let s : answer ≡ y = value_same q in rw s at made) }
