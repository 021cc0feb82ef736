-- How the justification step moves the three checkpoints: the shape that the claim over lists of closes asks for.
use mathlib.Core.Path.{◌≡◌, refl, subst}
use mathlib.Core.Bool.{Bool, true, false, cond, ◌&&◌}
use mathlib.Core.List.{List}
use Prim.Native.Nat.{ℕ, ◌+◌, ◌-◌, ◌≤◌}
use native.Mathlib.Omega.{arith}
use lib.Dec.{T, leb, eqb, eqb→eq}
use Rattle.definitions.specs.declared.Settings.{Settings}
use Rattle.definitions.specs.declared.Checkpoint.{Checkpoint}
use Rattle.definitions.specs.declared.Finality.{Finality}
use Rattle.definitions.specs.Record.{Validator, GENESIS_EPOCH}
use Rattle.definitions.specs.Checked.{value}
use Rattle.definitions.specs.Document.Phase0.EpochProcessing.{bit, justified_bits, finalized_by, weighed}
use Rattle.definitions.specs.Rust.Phase0.Helpers.{get_current_epoch, get_previous_epoch}
use Rattle.definitions.specs.Rust.Phase0.EpochProcessing.{weigh_justification_and_finalization}
use Rattle.definitions.specs.Rust.Altair.EpochProcessing.{process_justification_and_finalization}
use Rattle.laws.proofs.Checked.{value_same, bound}
use Rattle.laws.proofs.Moved.{CurrentMoved, FinalizedMoved, Moved}
use Rattle.laws.proofs.Tests.{either, T_right}

-- the four tests, of which a later one overrides
overriding : {e : ℕ} {o : Finality} {x y : Checkpoint} (b : Bool) → (T b → FinalizedMoved e o y) → FinalizedMoved e o x → FinalizedMoved e o (cond b y x)
overriding true f h = f tt
overriding false f h = h

back : (e n : ℕ) (b : Bool) (k : ℕ) → 1 ≤ k → k ≤ 3 → T (b && eqb (n + k) e) → (n + 1 ≤ e) × (e ≤ n + 3)
back e n b k l m t = let q = eqb→eq (n + k) e (T_right b (eqb (n + k) e) t) in (omega arith, omega arith)

finalized-by : (e b : ℕ) (o : Finality) → FinalizedMoved e o (finalized_by e b o)
unfolding finalized_by
finalized-by e b o =
    overriding (bit 0 b && bit 1 b && eqb (c.epoch + 1) e) (current (bit 0 b && bit 1 b) 1 (omega arith) (omega arith))
    (overriding (bit 0 b && bit 1 b && bit 2 b && eqb (c.epoch + 2) e) (current (bit 0 b && bit 1 b && bit 2 b) 2 (omega arith) (omega arith))
    (overriding (bit 1 b && bit 2 b && eqb (p.epoch + 2) e) (previous (bit 1 b && bit 2 b) 2 (omega arith) (omega arith))
    (overriding (bit 1 b && bit 2 b && bit 3 b && eqb (p.epoch + 3) e) (previous (bit 1 b && bit 2 b && bit 3 b) 3 (omega arith) (omega arith))
    (FinalizedMoved.same refl))))
  where
    p : Checkpoint
    p = o.previous_justified_checkpoint

    c : Checkpoint
    c = o.current_justified_checkpoint

    current : (x : Bool) (k : ℕ) → 1 ≤ k → k ≤ 3 → T (x && eqb (c.epoch + k) e) → FinalizedMoved e o c
    current x k l m t = let q = back e c.epoch x k l m t in FinalizedMoved.from_current refl q.0 q.1

    previous : (x : Bool) (k : ℕ) → 1 ≤ k → k ≤ 3 → T (x && eqb (p.epoch + k) e) → FinalizedMoved e o p
    previous x k l m t = let q = back e p.epoch x k l m t in FinalizedMoved.from_previous refl q.0 q.1

previous-epoch : (s : Settings) (state_slot : ℕ) → get_previous_epoch s state_slot ≡ get_current_epoch s state_slot - 1
unfolding get_previous_epoch
previous-epoch s state_slot = go (eqb (get_current_epoch s state_slot) 0) (eqb→eq (get_current_epoch s state_slot) 0)
  where
    go : (b : Bool) → (T b → get_current_epoch s state_slot ≡ 0) → cond b 0 (get_current_epoch s state_slot - 1) ≡ get_current_epoch s state_slot - 1
    go true h = let z = h tt in omega arith
    go false h = refl

current-by : (e : ℕ) {pe : ℕ} (p c : Bool) (rp rc : List ℕ) (o : Checkpoint) → pe ≡ e - 1 → CurrentMoved e o (cond c (record { epoch = e; root = rc }) (cond p (record { epoch = pe; root = rp }) o))
current-by e p true rp rc o h = CurrentMoved.present_epoch refl
current-by e true false rp rc o h = CurrentMoved.previous_epoch h
current-by e false false rp rc o h = CurrentMoved.same refl

-- the step: nothing but the bits and the checkpoints moves
pub record CheckpointsMoved (e : ℕ) (was now : Finality) : Type 0 where
  pub slot : now.slot ≡ was.slot
  pub moved : Moved e was now

weighed-justified : (e pe : ℕ) (p c : Bool) (rp rc : List ℕ) (o : Finality) → pe ≡ e - 1 → CheckpointsMoved e o (weighed pe e p c rp rc o)
unfolding weighed
weighed-justified e pe p c rp rc o h =
    record {
      slot = refl;
      moved = Moved.weighed refl (current-by e p c rp rc o.current_justified_checkpoint h) (finalized-by e (justified_bits p c o.justification_bits) o);
    }

weigh-justified : (s : Settings) (roots : List ℕ) (o : Finality) (total previous current : ℕ) {f : Finality} → weigh_justification_and_finalization s roots o total previous current ≡ value f → CheckpointsMoved (get_current_epoch s o.slot) o f
unfolding weigh_justification_and_finalization
weigh-justified s roots o total previous current q =
    let a = bound _ _ q in
    let b = bound _ _ a.then in
    let c = bound _ _ b.then in
    let d = bound _ _ c.then in
    subst (CheckpointsMoved (get_current_epoch s o.slot) o) (value_same d.then)
    (weighed-justified (get_current_epoch s o.slot) (get_previous_epoch s o.slot) a.first c.first b.first d.first o (previous-epoch s o.slot))

pub justification-moves : (s : Settings) (roots : List ℕ) (o : Finality) (vs : List Validator) {f : Finality} → process_justification_and_finalization s roots o vs ≡ value f → CheckpointsMoved (get_current_epoch s o.slot) o f
unfolding process_justification_and_finalization
justification-moves s roots o vs =
    either (CheckpointsMoved e o) (leb e (GENESIS_EPOCH + 1))
    (λ q. subst (CheckpointsMoved e o) (value_same q) (record { slot = refl; moved = Moved.kept refl refl refl }))
    (λ q.
    let a = bound _ _ q in
    let b = bound _ _ a.then in
    let c = bound _ _ b.then in
    weigh-justified s roots o a.first b.first c.first c.then)
  where
    e : ℕ
    e = get_current_epoch s o.slot
