-- What the functions that add give, on lent lists.
use mathlib.Core.Path.{◌≡◌, refl, sym, ap, ◌∙◌}
use mathlib.Core.List.{List}
use Prim.Native.Nat.{ℕ, ◌+◌, ◌-◌, ◌*◌, ◌≤◌, ◌<◌}
use borrow.Author.Tests.{eq-eqb, ne_eqb, lt-ltb, le-ltb}
use lib.ListN.{length, set}
use Rattle.definitions.specs.Record.{Validator, FAR_FUTURE_EPOCH, decode_one, encode_one, encode, decode}
use Rattle.definitions.specs.Checked.{Checked, value, refused, done, bind, settle}
use Rattle.definitions.specs.Rust.Phase0.Helpers.{increase_balance}
use Rattle.laws.proofs.Checked.{not_value, value_same}
use Rattle.laws.proofs.Encode.{ten, encode-decode}
use Rattle.laws.specs.Ran.{Settles}
use Rattle.laws.proofs.Loops.Entry.{entry_at, put_at, entry-is, entry-back}
use Rattle.definitions_electra.specs.declared.PendingDeposit.{PendingDeposit}
use Rattle.electra_deposits.specs.declared.adding.NewNumbers.{NewNumbers}
use Rattle.arithmetic.proofs.Laws.{bind-value, bind-refused}
use Rattle.electra_deposits.specs.Room.{Room, place_by, appended, with_buffer, apply_at, join_at, new_validator, effective_by, new_by, room_of, Held, Applies}

pub written : (e : List ℕ) (effective amount : ℕ) → length e ≡ 10 → set (set (set (set (set (set (set (set (set (set e 0 effective) 1 0) 2 FAR_FUTURE_EPOCH) 3 FAR_FUTURE_EPOCH) 4 FAR_FUTURE_EPOCH) 5 FAR_FUTURE_EPOCH) 6 amount) 7 0) 8 0) 9 0 ≡ encode_one (new_validator effective amount)
written e effective amount l = rw (ten e l)

-- apply

same-room : {m : Checked Room} {a : Room} {xs cs ps : List ℕ} {r : Checked ℕ} → m ≡ value a → r ≡ value a.count → Held a xs cs ps → Applies m xs cs ps r
same-room {a = a} e z h = record { is = z ∙ sym (bind-value _ e); held = λ b f. (let z : a ≡ b = value_same (sym e ∙ f) in rw (← z) h) }

module _ (k : NewNumbers) (n count place : ℕ) (d : PendingDeposit) (xs cs ps : List ℕ) (long : length xs ≡ 10 * length cs) where
  abbrev v : Validator
  v = decode_one (entry_at xs (place - 1))

  -- a known key: its part comes back as e
  pub applied-known : {e : List ℕ} {r : Checked (Unit {0})} {s : Checked ℕ} → (place ≡ 0 → ⊥) → place - 1 < length cs → Settles (λ v. increase_balance v d.amount) (entry_at xs (place - 1)) e r → s ≡ bind r (λ _. value count) → Applies (apply_at (new_by k) n (room_of xs cs ps count) place d) (put_at xs (place - 1) e) cs ps s
  unfolding apply_at bind
  applied-known {e} {r} {s} z l h i = rw (ne_eqb place 0 z, ← entry-is (length cs) xs (place - 1) long l) (go (increase_balance v d.amount) refl)
    where
      go : (m : Checked Validator) → increase_balance (decode_one (entry_at xs (place - 1))) d.amount ≡ m → Applies (bind m (λ w. value (with_buffer (set (decode xs) (place - 1) w) (room_of xs cs ps count)))) (put_at xs (place - 1) e) cs ps s
      go (value w) q =
          let b = entry-back (length cs) xs (place - 1) long l w (h.held ∙ ap (λ (m : Checked Validator). encode_one (settle m (decode_one (entry_at xs (place - 1))))) q) in
          same-room refl (i ∙ bind-value _ (h.is ∙ ap done q)) (record { buffer = b; compounding = refl; places = refl })
      go (refused p) q = record { is = i ∙ bind-refused _ (h.is ∙ ap done q); held = λ b f. absurd (not_value f) }

  module _ (z : place ≡ 0) where
    pub applied-invalid : (d.valid ≡ 1 → ⊥) → Applies (apply_at (new_by k) n (room_of xs cs ps count) place d) xs cs ps (value count)
    unfolding apply_at
    applied-invalid f =
        same-room (rw (eq-eqb place 0 z, ne_eqb d.valid 1 f)) refl
        (record { buffer = sym (encode-decode (length cs) xs long); compounding = refl; places = refl })

    pub applied-new : {ys es qs : List ℕ} {effective : ℕ} → d.valid ≡ 1 → effective ≡ effective_by k d → ys ≡ encode (set (decode xs) count (new_validator effective d.amount)) → es ≡ set cs count d.compounding → qs ≡ set ps (d.pubkey - n) (count + 1) → Applies (apply_at (new_by k) n (room_of xs cs ps count) place d) ys es qs (value (count + 1))
    unfolding apply_at appended
    applied-new {ys} e g a b c =
        same-room (rw (eq-eqb place 0 z, eq-eqb d.valid 1 e)) refl
        (record { buffer = a ∙ ap (λ (x : ℕ). encode (set (decode xs) count (new_validator x d.amount))) g; compounding = b; places = c })

-- join

pub joined-front : (k : NewNumbers) (n count : ℕ) (d : PendingDeposit) (xs cs ps : List ℕ) → length xs ≡ 10 * length cs → d.pubkey < n → Applies (join_at (new_by k) n (room_of xs cs ps count) d) xs cs ps (value count)
unfolding join_at
joined-front k n count d xs cs ps long l =
    same-room (rw (lt-ltb d.pubkey n l)) refl (record { buffer = sym (encode-decode (length cs) xs long); compounding = refl; places = refl })

pub joined-new : (k : NewNumbers) (n count : ℕ) (d : PendingDeposit) (xs cs ps : List ℕ) {ys es qs : List ℕ} {r : Checked ℕ} → n ≤ d.pubkey → Applies (apply_at (new_by k) n (room_of xs cs ps count) (place_by n ps d.pubkey) d) ys es qs r → Applies (join_at (new_by k) n (room_of xs cs ps count) d) ys es qs r
unfolding join_at
joined-new k n count d xs cs ps l h = rw (le-ltb d.pubkey n l) h
