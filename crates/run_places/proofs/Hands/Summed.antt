-- Where a row adds up the entries that it has pushed, and a section that is open holds a block of the batch, some entry is not counted down: nothing is reclaimed.
use Rattle.std.specs.Prelude.{◌≡◌, ℕ, ◌<◌, ◌≤◌, ◌+◌, ◌/◌, ◌%◌, ◌^◌, ◌==◌, Bool, true, false, List, [], ◌∷◌, Option, Some, if◌then◌else◌}
use Rattle.std.proofs.Common.{refl, ap, sym, subst, ◌∙◌, arith, inl, inr, eqb-true}
use Rattle.std.proofs.lemmas.Bool.{cases_lt}
use Rattle.run_shows.specs.Given.SeizeWordsDeclared.at.At.TheVariants.{Entry}
use Rattle.run_shows.specs.Given.SeizeWordsOp.{Found}
use Rattle.run_shows.specs.Given.SeizeWordsMem.{Mem, Took, value_at, word_at}
use Rattle.run_shows.specs.Given.SeizeWordsPlan.{Steps, Ends}
use Rattle.run_shows.proofs.Given.SeizeWordsOneOwner.Operations.{added}
use Rattle.run_shows.specs.Given.SeizeDeclared.rows.settle.Settle.{Settle}
use Rattle.run_shows.specs.Given.SeizeDeclared.rows.settle.Settled.{Settled}
use Rattle.run_shows.specs.Given.SeizeDeclared.states.TheConstants.{COUNT, LAST_SLOT}
use Rattle.run_shows.specs.Given.SeizeLaw.{holds, is_open}
use Rattle.run_shows.specs.Given.SeizeSettle as plans
use Rattle.run_shows.specs.Given.SeizeWorld.{World}
use Rattle.run_shows.specs.Given.SeizeWaitingHeld.{count}
use Rattle.run_shows.proofs.Given.SeizeMovesState.Ghost.{Debt, Unscanned, Marked, Gone, Skipped, Owing, Loose, Counted, Head, Never, Stage, Closing, Life, IsIn, State, is_active, is_marked, owes, counts, was_put, total}
use Rattle.run_shows.proofs.Given.SeizeMovesState.Logs.{held_open}
use Rattle.run_shows.proofs.Given.SeizeMovesState.Rule.{IsLive, Waits, IsGuarded, SeenIs, AtStage}
use Rattle.run_shows.proofs.Given.SeizeMovesState.Sums.{put_parts, put_le, total_le}
use Rattle.run_shows.proofs.Given.SeizeRulePoints.Known.{Sums, bare}
use Rattle.run_shows.proofs.Given.SeizeRulePoints.Retire.{of_link}
use Rattle.run_shows.proofs.Given.SeizeMemoryWords.Chains.{first_or, count_first}
use Rattle.run_shows.proofs.Given.SeizeMemoryWords.Named.{words_of, word_found, link, link-block}
use Rattle.run_shows.proofs.Given.SeizeMemoryWords.Shows.{CountIs}
use Rattle.run_shows.proofs.Given.SeizeMemoryWords.View.{view}
use Rattle.run_shows.proofs.Given.SeizeAloneHistories.Reached.{Reached}
use Rattle.run_shows.specs.Given.TablesNodes.{deferred_word}
use Rattle.run_shows.specs.Given.TablesDeclared.node.Node.{Node}
use Rattle.run_places.specs.Hands.Rows.{HoldsOne, SettlesAside}
use Rattle.run_places.proofs.Hands.Guarded.{block_in_batch, first_of_batch, counted_in, in_counted}
use Rattle.run_places.proofs.Hands.Settling.{GoesSo, onward_aside}

-- a batch that has a block has a first one
some_block : (l : List ℕ) (b : ℕ) → count b l ≡ 1 → (d : ℕ) × (rest : List ℕ) × (l ≡ d ∷ rest)
some_block [] b e = absurd (omega (arith, e))
some_block (d ∷ rest) b e = (d, rest, refl)

some_first : (l : List ℕ) → (l ≡ [] → ⊥) → (d : ℕ) × (rest : List ℕ) × (l ≡ d ∷ rest)
some_first [] ne = absurd (ne refl)
some_first (d ∷ rest) ne = (d, rest, refl)

same_link : (a b : ℕ) → link a ≡ link b → a ≡ b
same_link a b e = sym (link-block a) ∙ ap (λ k. k / 2048) e ∙ link-block b

-- a slot that was scanned, and is not marked any more, owes an entry where the batch waits for it
owes_one : (d : Debt) (n slot seen : ℕ) → slot < n → n ≤ seen → SeenIs d slot seen → 0 ≡ is_marked d → Waits d → owes d ≡ 1
owes_one Unscanned n slot seen l all is none waits = absurd (omega (arith, l, all, is))
owes_one Marked n slot seen l all is none waits = absurd (omega (arith, none))
owes_one Gone n slot seen l all is none waits = absurd waits
owes_one Skipped n slot seen l all is none waits = absurd waits
owes_one Owing n slot seen l all is none waits = refl
owes_one (Loose i) n slot seen l all is none waits = absurd waits
owes_one Counted n slot seen l all is none waits = absurd waits

never_active : (h : Head) → h ≡ Never → is_active h ≡ true → ⊥
never_active h e a = absurd (let it = ap is_active e in cc (it, a))

small : LAST_SLOT + 1 < 2 ^ 64
small = omega arith

one_less : (a b : ℕ) → a ≡ 1 → a ≤ b → 0 < b
one_less a b e l = omega (arith, e, l)

-- what was put and not counted down is the sum
sum_of : (c put owed counted n : ℕ) → (c + counted) % 2 ^ 64 ≡ 0 → put ≡ owed + counted → put ≤ n → n < 2 ^ 64 → (c + put) % 2 ^ 64 ≡ owed
sum_of c put owed counted n zero parts le lt = omega (arith, zero, parts, le, lt)

not_none : (a b : ℕ) → a ≡ b → 0 < b → a ≡ 0 → ⊥
not_none a b e some none = omega (arith, e, some, none)

module _ {K V : Type 0} {size : ℕ} (w : World (Node K V)) (r : Reached deferred_word size w) (i slot : ℕ) (c : Settle) (one : HoldsOne w slot c.first) (pushed : ℕ)
    (fits : Sums (LAST_SLOT + 1) i r.good.state r.good.extra (bare c) pushed) where
  abbrev n : ℕ
  n = LAST_SLOT + 1

  abbrev m : State
  m = r.good.state

  abbrev y : ℕ
  y = fits.y

  live : IsLive (m.stage y) ≡ true
  live = ap IsLive fits.shuts.stage

  -- the block is in that batch
  first : (d : ℕ) × (rest : List ℕ) × (m.blocks y ≡ d ∷ rest)
  first = some_first (m.blocks y) fits.shuts.some

  abbrev its : ℕ
  its = (block_in_batch w r slot c.first one).0

  its_first : (d : ℕ) × (rest : List ℕ) × (m.blocks its ≡ d ∷ rest)
  its_first = some_block (m.blocks its) one.block (in_counted n m r.good.inv its one.block (block_in_batch w r slot c.first one).1)

  same_first : its_first.0 ≡ first.0
  same_first = same_link its_first.0 first.0
      (sym (ap (first_or 0) its_first.2) ∙ sym (first_of_batch w r slot c.first one) ∙ fits.shuts.first ∙ ap (first_or 0) first.2)

  same_batch : its ≡ y
  same_batch =
      let a = counted_in n m r.good.inv y first.0 live (subst (λ (l : List ℕ). 0 < count first.0 l) (sym first.2) (count_first first.0 first.1)) in
      let z = counted_in n m r.good.inv its first.0 (r.good.inv.places.housed one.block its (block_in_batch w r slot c.first one).1)
      (subst (λ (l : List ℕ). 0 < count first.0 l) (sym its_first.2) (subst (λ (d : ℕ). 0 < count first.0 (d ∷ its_first.1)) (sym same_first) (count_first first.0 its_first.1))) in
      let e : IsIn its ≡ IsIn y = sym z ∙ a in cc e

  -- which waits for the slot of the section
  waits : Waits (m.debt y slot)
  waits =
      let guarded = r.good.inv.logged.guarded slot one.block (ap (holds slot one.block) r.good.logged ∙ one.held) in
      subst (λ (x : ℕ). Waits (m.debt x slot)) same_batch (subst (λ (l : Life). IsGuarded l m.debt slot) (block_in_batch w r slot c.first one).1 guarded)

  slot_lt : slot < n
  slot_lt = elim (cases_lt slot n) as (λ _. slot < n) [
    | inl less ↦ less
    | inr more ↦ absurd (never_active (m.head slot) (r.good.inv.slots.outside slot more)
        (r.good.inv.logged.opens slot (ap (is_open slot) r.good.logged ∙ held_open slot one.block w.log one.held)))
  ]

  at_stage : AtStage n (Closing i) (m.counter y) (m.debt y) (m.seen y) (m.todo y)
  at_stage = subst (λ (g : Stage). AtStage n g (m.counter y) (m.debt y) (m.seen y) (m.todo y)) fits.shuts.stage (r.good.inv.batches.tally y)

  owes_some : 0 < total owes (m.debt y) n
  owes_some =
      let none : 0 ≡ is_marked (m.debt y slot) = sym (ap (count slot) fits.shuts.todo) ∙ r.good.inv.debts.marked y slot in
      let o = owes_one (m.debt y slot) n slot (m.seen y) slot_lt at_stage.1 (r.good.inv.debts.scanned y slot) none waits in
      one_less (owes (m.debt y slot)) (total owes (m.debt y) n) o (total_le owes (m.debt y) n slot slot_lt)

  -- so the sum is not zero
  sum_some : (m.counter y + total was_put (m.debt y) n) % 2 ^ 64 ≡ 0 → ⊥
  sum_some =
      not_none ((m.counter y + total was_put (m.debt y) n) % 2 ^ 64) (total owes (m.debt y) n)
      (sum_of (m.counter y) (total was_put (m.debt y) n) (total owes (m.debt y) n) (total counts (m.debt y) n) n at_stage.0 (put_parts (m.debt y) n) (put_le (m.debt y) n) small) owes_some

  counter_is : words_of w.memory (Entry first.0 COUNT) ≡ m.counter y
  counter_is = by (m.stage y) (m.blocks y) fits.shuts.stage first.2 (r.good.shows.linkage.counted y)
    where
      by : (g : Stage) (bs : List ℕ) → g ≡ Closing i → bs ≡ first.0 ∷ first.1 → CountIs (view deferred_word w.memory).counts g (m.counter y) bs → (view deferred_word w.memory).counts first.0 ≡ m.counter y
      by g bs e is h = grind arith

  -- and the row goes on, with nothing to reclaim
  module _ (aside : SettlesAside c) (One : ℕ → Type 0) (mem2 : Mem (Node K V)) (end : Settle × Settled (Node K V)) where
    by : (found : ℕ) → word_at w.memory (Entry (c.first / 2048) COUNT) ≡ Some found → (shown : ℕ → Option (Node K V)) → Ends shown (plans.summed c pushed (Found found)) end → GoesSo One end.0
    by found is shown ends = led ((found + pushed) % 2 ^ 64 == 0) refl ends
      where
        named : c.first / 2048 ≡ first.0
        named = of_link c.first first.0 (fits.shuts.first ∙ ap (first_or 0) first.2)

        found_is : found ≡ m.counter y
        found_is = sym (word_found w.memory (Entry (c.first / 2048) COUNT) found is) ∙ ap (λ d. words_of w.memory (Entry d COUNT)) named ∙ counter_is

        led : (t : Bool) → ((found + pushed) % 2 ^ 64 == 0) ≡ t
            → Ends shown (if t then plans.to {T = Node K V} (plans.onward (record c { reclaiming = c.first; first = 0 })) else plans.to (plans.onward (record c { first = 0 }))) end → GoesSo One end.0
        led true e ends =
            absurd (sum_some (ap (λ k. (k + total was_put (m.debt y) n) % 2 ^ 64) (sym found_is) ∙ ap (λ k. (found + k) % 2 ^ 64) fits.shuts.done ∙ eqb-true ((found + pushed) % 2 ^ 64) 0 e))
        led false e ends = subst (λ (q : Settle × Settled (Node K V)). GoesSo One q.0) (sym ends) (onward_aside One (record c { first = 0 }) (aside.0, aside.1, aside.2))

    pub sums_aside : Steps Took value_at w.memory (plans.sums c pushed) mem2 end → GoesSo One end.0
    sums_aside st = let l = added w.memory (plans.summed c pushed) (Entry (c.first / 2048) COUNT) pushed mem2 end st in by l.0 l.1 _ l.3
