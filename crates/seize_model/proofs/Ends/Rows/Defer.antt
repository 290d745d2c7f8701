-- Deferring ends where no other row steps meanwhile: a number that each of its steps lowers, save the last.
use Rattle.std.specs.Prelude.{Option, ◌/◌, ◌==◌, if◌then◌else◌}
use Rattle.std.proofs.Common.{◌≡◌, ℕ, ◌+◌, ◌<◌, Bool, true, false, ◌⊎◌, inl, inr, refl, arith, subst, sym, ap, ◌∙◌, length}
use Rattle.std.proofs.lemmas.Bool.{ne_eqb, eq-eqb}
use Rattle.seize.specs.Given.SeizeWordsDeclared.at.At.{At}
use Rattle.seize.specs.Given.SeizeWordsDeclared.at.At.TheVariants.{Entry}
use Rattle.seize.specs.Given.SeizeWordsMem.{Mem, value_at, word_at, with_word, same_at, Took}
use Rattle.seize.specs.Given.SeizeWordsPlan.{Steps}
use Rattle.seize.proofs.Given.SeizeWordsOneOwner.Operations.{loaded, stored, exchanged}
use Rattle.seize.specs.declared.states.TheConstants.{NEXT}
use Rattle.seize.specs.declared.advance.Advance.{Advance}
use Rattle.seize.specs.declared.advance.Advance.TheVariants.{Goes, Done}
use Rattle.seize.specs.declared.rows.defer.Defer.{Defer}
use Rattle.seize.specs.declared.rows.defer.Deferring.{Deferring}
use Rattle.seize.specs.declared.rows.defer.Deferring.TheVariants as at
use Rattle.seize.specs.Defer.{defer_plan, plan_at, head_read, after_push, goes, standing}
use Rattle.seize.specs.World.{World, Row, Defers}
use Rattle.seize_rule.proofs.Given.SeizeMemoryWords.Named.{words_of, has, word_found, wrote, write_apart}
use Rattle.seize_rule.proofs.Given.SeizeMemoryWords.View.{view}
use Rattle.seize_rule.proofs.Given.SeizeMemoryWords.Shows.{lives}
use Rattle.seize_rule.proofs.Rows.Known.{FitsDefer, FitsRow, OnWay}
use Rattle.seize_rule.proofs.Given.SeizeMemoryWords.There.{some_of}
use Rattle.seize_rule.proofs.World.Good.{Good}
use Rattle.seize_rule.proofs.Points.Retire.{of_link}

-- By the head of the list, and where the row stands: a block that is linked to another head is to be linked once more.
abbrev pub to_go : ℕ → Deferring → ℕ
to_go first at.Reads = 4
to_go first (at.Links head) = if first == head then 3 else 5
to_go first (at.Pushes head) = if first == head then 2 else 4
to_go first at.Over = 1

module _ {T : Type 0} where
  abbrev pub defer_to_go : Mem T → Defer → ℕ
  defer_to_go m c = to_go (words_of m c.table_word) c.stands

  -- the row goes on with less to go, or it has ended
  abbrev pub Lower : ℕ → Mem T → Defer × Advance Unit → Type 0
  Lower k m end = ((end.1 ≡ Goes) × (defer_to_go m end.0 < k)) ⊎ (end.1 ≡ Done tt)

links_same : (a b : ℕ) → a ≡ b → to_go a (at.Links b) ≡ 3
links_same a b e = ap (λ (t : Bool). if t then 3 else 5) (eq-eqb a b e)

pushes_other : (a b : ℕ) → (a ≡ b → ⊥) → to_go a (at.Pushes b) ≡ 4
pushes_other a b ne = ap (λ (t : Bool). if t then 2 else 4) (ne_eqb a b ne)

pushes_some : (a b : ℕ) → 1 < to_go a (at.Pushes b)
pushes_some a b = by (a == b)
  where
    by : (t : Bool) → 1 < (if t then 2 else 4)
    by true = omega arith
    by false = omega arith

pushes_less : (a b : ℕ) → to_go a (at.Pushes b) < to_go a (at.Links b)
pushes_less a b = by (a == b)
  where
    by : (t : Bool) → (if t then 2 else 4) < (if t then 3 else 5)
    by true = omega arith
    by false = omega arith

module _ {T : Type 0} {size : ℕ} (defers : T → Option ℕ) (n : ℕ) (w : World T) (good : Good defers n size w) (i s : ℕ) (c : Defer) (is : w.row i ≡ Defers s c) where
  goes_lower : (mem2 : Mem T) (p : Deferring) (end : Defer × Advance Unit) (k : ℕ) → end ≡ (standing c p, Goes) → to_go (words_of mem2 c.table_word) p < k → Lower k mem2 end
  goes_lower mem2 p end k e less = subst (λ (q : Defer × Advance Unit). Lower k mem2 q) (sym e) (inl (refl, less))

  -- the block's own link is no head of a list
  links_apart : (mem2 : Mem T) (head : ℕ) → OnWay n i (view defers w.memory) good.state good.extra s c.block c.table_word → mem2 ≡ with_word w.memory (Entry (c.block / 2048) NEXT) head
      → words_of mem2 c.table_word ≡ words_of w.memory c.table_word
  links_apart mem2 head r e =
      let there : has w.memory (Entry (c.block / 2048) NEXT) ≡ true =
      subst (λ (a : ℕ). has w.memory (Entry a NEXT) ≡ true) (sym (of_link c.block r.b r.block_is)) (good.stocked.entries r.b NEXT (good.shows.lists.lived r.b ∙ ap lives r.life) (omega arith)) in
      let wrote_it = wrote w.memory (Entry (c.block / 2048) NEXT) head (some_of (word_at w.memory (Entry (c.block / 2048) NEXT)) there) in
      ap (λ (m : Mem T). words_of m c.table_word) e ∙ ap (λ (f : At → ℕ). f c.table_word) wrote_it.words
      ∙ write_apart (words_of w.memory) (Entry (c.block / 2048) NEXT) head c.table_word (ap (λ (x : At). same_at x (Entry (c.block / 2048) NEXT)) r.at_is)

  at_point : (p : Deferring) → FitsDefer n i (view defers w.memory) good.state good.extra s c.block c.table_word p → (mem2 : Mem T) (end : Defer × Advance Unit)
      → Steps Took value_at w.memory (plan_at c p) mem2 end → Lower (to_go (words_of w.memory c.table_word) p) mem2 end
  at_point at.Reads r mem2 end st =
      let d = loaded w.memory (head_read c) c.table_word mem2 end st in
      let e = ap (λ (m : Mem T). words_of m c.table_word) d.2 ∙ word_found w.memory c.table_word d.0 d.1 in
      let k = links_same (words_of mem2 c.table_word) d.0 e in
      goes_lower mem2 (at.Links d.0) end 4 d.3 (omega (arith, k))
  at_point (at.Links head) r mem2 end st =
      let d = stored w.memory (λ out. goes c (at.Pushes head)) (Entry (c.block / 2048) NEXT) head mem2 end st in
      let e = links_apart mem2 head r d.0 in
      let k = pushes_less (words_of w.memory c.table_word) head in
      goes_lower mem2 (at.Pushes head) end (to_go (words_of w.memory c.table_word) (at.Links head)) d.1 (rw e k)
  at_point (at.Pushes head) r mem2 end st =
      elim (exchanged w.memory (after_push c) c.table_word head c.block mem2 end st) as (λ _. Lower (to_go (words_of w.memory c.table_word) (at.Pushes head)) mem2 end) [
        | inl d ↦ goes_lower mem2 at.Over end (to_go (words_of w.memory c.table_word) (at.Pushes head)) d.3 (pushes_some (words_of w.memory c.table_word) head)
        | inr d ↦
            (let found = word_found w.memory c.table_word d.0 d.1.0 in
            let k = links_same (words_of mem2 c.table_word) d.0 (ap (λ (m : Mem T). words_of m c.table_word) d.2 ∙ found) in
            let l = pushes_other (words_of w.memory c.table_word) head (λ z. d.1.1 (sym found ∙ z)) in
            goes_lower mem2 (at.Links d.0) end (to_go (words_of w.memory c.table_word) (at.Pushes head)) d.3 (omega (arith, k, l)))
      ]
  at_point at.Over r mem2 end st = inr (ap (λ (q : Defer × Advance Unit). q.1) st.1)

  -- a step of it, which may be its last
  pub defer_ends : (mem2 : Mem T) (end : Defer × Advance Unit) → Steps Took value_at w.memory (defer_plan c) mem2 end → Lower (defer_to_go w.memory c) mem2 end
  defer_ends mem2 end st =
      at_point c.stands (subst (λ (row : Row). FitsRow n i (view defers w.memory) good.state good.extra (length w.memory.slots) row) is (good.rows i)) mem2 end st
