-- What has ended: the moves keep the rule, and leave to the other rows what they know.
use Rattle.std.specs.Prelude.{◌||◌}
use Rattle.std.proofs.Common.{◌≡◌, ℕ, Bool, true, false, cond, eqb, List, ◌∷◌, refl, arith, ◌∙◌, []}
use Rattle.seize.specs.Law.{is_orphan}
use Rattle.seize.specs.WaitingSets.{is_one_of}
use Rattle.seize_moves.specs.Waiting.Held.{count}
use Rattle.seize_moves.proofs.Waiting.Counts.{not_one, not_among}
use Rattle.seize_moves.proofs.Moves.State.Ghost.{is_deferred, Life, IsUnlinked, IsDeferring, IsDeferred, State}
use Rattle.seize_moves.proofs.Moves.State.Rule.{Inv, Moved, same_row, row_of, same_slot, slot_of, same_batch, batch_of}
use Rattle.seize_moves.proofs.Moves.State.Moves
use Rattle.seize.proofs.Given.General.{at_most_itself as not_longer}

-- the block is on the list of b
abbrev pub is_on : ℕ → Life → Bool
is_on b (IsDeferred t) = eqb b t
is_on b _ = false

-- what stands in a list once where it is on it, and else not at all
pub one_of_list : (b c : ℕ) (blocks : List ℕ) (l : Life) → count c blocks ≡ is_deferred b l → is_one_of c blocks ≡ is_on b l
one_of_list b c blocks l h = by (is_on b l) refl
  where
    some : count c blocks ≡ 1 → (t : Bool) → is_one_of c blocks ≡ t → t ≡ true
    some e true is = refl
    some e false is = let none = not_among c blocks is in absurd (omega (arith, e, none))

    counted : (l : Life) (t : Bool) → is_on b l ≡ t → is_deferred b l ≡ cond t 1 0
    counted l t e = grind (arith, e)

    by : (t : Bool) → is_on b l ≡ t → is_one_of c blocks ≡ t
    by true e = some (h ∙ counted l true e) (is_one_of c blocks) refl
    by false e = not_one c blocks (h ∙ counted l false e)

-- what ends with b: it, and what is on its list
pub ends_with : (n : ℕ) (m : State) (b : ℕ) → Inv n m → (c : ℕ) → is_one_of c (b ∷ m.deferred b) ≡ cond (eqb c b) true (is_on b (m.life c))
ends_with n m b inv c = at (eqb c b) (one_of_list b c (m.deferred b) (m.life c) (inv.places.all_deferred b c))
  where
    at : (t : Bool) → is_one_of c (m.deferred b) ≡ is_on b (m.life c) → (t || is_one_of c (m.deferred b)) ≡ cond t true (is_on b (m.life c))
    at true k = refl
    at false k = k

-- the block and what was deferred until it end
pub left_over_moves : (n k i s : ℕ) (m : State) (b holder : ℕ) → Inv n m → m.life b ≡ IsUnlinked holder → is_orphan b m.log ≡ true → ((c j u : ℕ) → m.life c ≡ IsDeferring j u b → ⊥)
    → Moved n k s m (Moves.left_over m i b)
left_over_moves n k i s m b holder inv h orphan none = record {
  inv = record {
    debts = inv.debts;
    batches = inv.batches;
    places = record {
      boxed = λ y c. grind (arith, inv.places.boxed y c);
      to_take = λ j c. grind (arith, inv.places.to_take j c);
      to_retire = λ j c. grind (arith, inv.places.to_retire j c);
      all_deferred = λ t c. grind (arith, inv.places.all_deferred t c);
      housed = λ c y e. grind (arith, inv.places.housed c y);
      carries = λ c t e. grind (arith, inv.places.carries c t, none c);
    };
    logged = record {
      guarded = λ t c e. grind (arith, inv.logged.guarded t c, ends c);
      opens = inv.logged.opens;
      inside = inv.logged.inside;
      reaches = λ c. grind (arith, inv.logged.reaches c, ends c);
      given = λ c. grind (arith, inv.logged.given c);
      used = λ c. grind (arith, inv.logged.used c, ends c);
      on_way = λ c j u t e. grind (arith, inv.logged.on_way c j u t, none c j u, ends t, inv.places.carries c t);
      sound = (orphan, (λ c e. (grind (arith, inv.logged.reaches c, ends c), grind (arith, inv.logged.given c, ends c))), inv.logged.sound);
    };
    slots = inv.slots;
  };
  keeps = record {
    rows = λ j e. same_row (row_of m j);
    slots = λ t e. same_slot (slot_of m t);
    holding = λ j t e f. (refl, refl);
    batches = λ j x e f. same_batch (batch_of n m x);
    lives = λ j c e f. grind arith;
    lists = λ j c e f. grind arith;
    taken_slots = λ t e. e;
    marked = λ j x t ne closing d. (d, ([], refl));
    lengths = λ t l. not_longer _;
  };
}
  where
    ends : (c : ℕ) → is_one_of c (b ∷ m.deferred b) ≡ cond (eqb c b) true (is_on b (m.life c))
    ends c = ends_with n m b inv c
