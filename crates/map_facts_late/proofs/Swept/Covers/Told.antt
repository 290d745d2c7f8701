-- By what a sweep is asked for, and told, it comes to more.
use Rattle.std.specs.Prelude.{◌≡◌, ◌≢◌, ℕ, suc, ◌+◌, ◌%◌, ◌^◌, ◌<◌, ◌≤◌, Bool, true, false, nat_lt, List, ◌∷◌, ◌⊎◌, ◌&&◌, if◌then◌else◌}
use Rattle.std.proofs.Common.{refl, ap, inl, inr, sym, subst, ◌∙◌, arith}
use Rattle.std.proofs.lemmas.Bool.{ltb-true, ltb-false, cases_lt}
use Rattle.map_facts.specs.Given.SeizeWorld.{World}
use Rattle.map_facts.specs.Given.TablesDeclared.node.Node.{Node}
use Rattle.map_facts.specs.Given.TablesDeclared.setting.Setting.{Setting}
use Rattle.map_facts.specs.Given.TablesDeclared.table.Table.{Table}
use Rattle.map_facts.specs.Given.SweepsSweepPoints.{removes, next_at, reply_at, standing}
use Rattle.map_facts.specs.Given.ReservesDeclared.sweep.Purpose.{Purpose}
use Rattle.map_facts.specs.Given.ReservesDeclared.sweep.Sweep.{Sweep}
use Rattle.map_facts.specs.Given.ReservesDeclared.sweep.Sweeping.{Sweeping}
use Rattle.map_facts.specs.Given.ReservesDeclared.sweep.Sweeping.TheVariants as at
use Rattle.map_facts.specs.Given.RuleChart.{Phase, Holds, Chart}
use Rattle.map_facts.specs.Given.RuleWords.{Blocks}
use Rattle.map_facts.specs.Given.RuleInWorld.{IsMapIn}
use Rattle.map_facts_late.specs.Covers.{IsKept, Came, Covers, CoversAt}
use Rattle.map_facts_late.specs.CoversSweeps.{DoneReplied, SweepsAreRepliedOn}
use Rattle.map_facts_late.specs.FactsSweeps.{GoesOver, SweepingFacts, SweepFacts}
use Rattle.map_facts_late.proofs.Swept.Covers.On.{came_at_end, further_covers}
use Rattle.map_facts_late.proofs.Swept.Covers.Passes.{times_new, adds}

module _ {K V : Type 0} (same : K → K → Bool) (hash : K → ℕ) (setting : Setting) (w : World (Node K V)) (caller : ℕ) (c : Chart K) (blocks : Blocks) (began : ℕ) (p : Sweep)
    (map : IsMapIn same hash setting w c blocks) where
  -- what stands in its table stands within it
  module _ (t : ℕ) (over : GoesOver same hash w caller setting c blocks began p t) where
    pub within : (i n : ℕ) (phase : Phase) (borrowed : Bool) → c.place p.table.turn i ≡ Holds n phase borrowed → i < p.table.len
    within i n phase borrowed e = by (cases_lt i (c.len t))
      where
        turn : p.table.turn ≡ t
        turn = ap (λ (x : Table). x.turn) over.table.is

        len : p.table.len ≡ c.len t
        len = ap (λ (x : Table). x.len) over.table.is

        by : (i < c.len t) ⊎ (c.len t ≤ i) → i < p.table.len
        by (inl l) = omega (arith, l, len)
        by (inr far) = absurd (let none = map.map.rule.common.outside t i over.table.made far in let held : c.place t i ≡ Holds n phase borrowed = ap (λ (x : ℕ). c.place x i) (sym turn) ∙ e in cc (none, held))

    pub next_is : p.place < c.len t → (p.place + 1) % 2 ^ 64 ≡ suc p.place
    next_is inside = let sized = (map.map.shows.sized t over.table.made).most in omega (arith, inside, sized)

  module _ (f : SweepFacts same hash w caller setting c blocks began p) (entered : ℕ) (done : List ℕ) where
    next_in : (stage : Sweeping) → p.stands ≡ stage → SweepingFacts same hash w caller setting c blocks began p stage → CoversAt hash c blocks p entered done stage
        → CoversAt hash c blocks (next_at stage p) entered done (next_at stage p).stands
    next_in at.Ready is (walks, where_is) h = by (nat_lt p.place p.table.len) refl h
      where
        by : (more : Bool) → nat_lt p.place p.table.len ≡ more → ((p.table.len ≡ 0) × Came c entered p.purpose done) ⊎ ((0 < p.table.len) × Covers c entered p.table.turn p.place p.purpose p.met done)
            → CoversAt hash c blocks (standing p (if more then at.Words else at.Over)) entered done (if more then at.Words else at.Over)
        by true more (inl (zero, came)) = absurd (let l = ltb-true p.place p.table.len more in omega (arith, l, zero))
        by true more (inr (some, h)) = h
        by false more (inl (zero, came)) = came
        by false more (inr (some, h)) = (elim where_is as (λ _. Came c entered p.purpose done) [
          | inl none ↦ absurd (let zero : p.table.len ≡ 0 = ap (λ (x : Table). x.len) none.0 in omega (arith, some, zero))
          | inr (t, over, most) ↦ came_at_end hash c blocks p entered (within t over) p.met done p.place (ltb-false p.place p.table.len more) h (ap (λ (x : Purpose). removes x && p.met) walks)
        ])
    next_in at.Reads is point h = subst (CoversAt hash c blocks p entered done) (sym is) h
    next_in at.Follows is point h = subst (CoversAt hash c blocks p entered done) (sym is) h
    next_in (at.Copies copier) is point h = subst (CoversAt hash c blocks p entered done) (sym is) h
    next_in at.Words is point h = subst (CoversAt hash c blocks p entered done) (sym is) h
    next_in (at.Asks word) is point h = subst (CoversAt hash c blocks p entered done) (sym is) h
    next_in (at.Tries word) is point h = subst (CoversAt hash c blocks p entered done) (sym is) h
    next_in (at.Counts removed) is point h = subst (CoversAt hash c blocks p entered done) (sym is) h
    next_in (at.Disposes dispose) is point h = subst (CoversAt hash c blocks p entered done) (sym is) h
    next_in at.Over is point h = subst (CoversAt hash c blocks p entered done) (sym is) h
    next_in (at.Refused fault) is point h = subst (CoversAt hash c blocks p entered done) (sym is) h

    abbrev Replied : Bool → Sweeping → Type 0
    Replied keeps stage = (done2 : List ℕ) × DoneReplied hash c blocks done done2 keeps stage × CoversAt hash c blocks (reply_at stage p keeps) entered done2 (reply_at stage p keeps).stands

    same_done : (keeps : Bool) (stage : Sweeping) → ((word : ℕ) → stage ≢ at.Asks word) → CoversAt hash c blocks p entered done p.stands → Replied keeps stage
    same_done keeps (at.Asks word) other h = absurd (other word refl)
    same_done true at.Reads other h = (done, refl, h)
    same_done true at.Follows other h = (done, refl, h)
    same_done true (at.Copies copier) other h = (done, refl, h)
    same_done true at.Ready other h = (done, refl, h)
    same_done true at.Words other h = (done, refl, h)
    same_done true (at.Tries word) other h = (done, refl, h)
    same_done true (at.Counts removed) other h = (done, refl, h)
    same_done true (at.Disposes dispose) other h = (done, refl, h)
    same_done true at.Over other h = (done, refl, h)
    same_done true (at.Refused fault) other h = (done, refl, h)
    same_done false at.Reads other h = (done, refl, h)
    same_done false at.Follows other h = (done, refl, h)
    same_done false (at.Copies copier) other h = (done, refl, h)
    same_done false at.Ready other h = (done, refl, h)
    same_done false at.Words other h = (done, refl, h)
    same_done false (at.Tries word) other h = (done, refl, h)
    same_done false (at.Counts removed) other h = (done, refl, h)
    same_done false (at.Disposes dispose) other h = (done, refl, h)
    same_done false at.Over other h = (done, refl, h)
    same_done false (at.Refused fault) other h = (done, refl, h)

    reply_in : (stage : Sweeping) → SweepingFacts same hash w caller setting c blocks began p stage → CoversAt hash c blocks p entered done stage → CoversAt hash c blocks p entered done p.stands
        → (keeps : Bool) → Replied keeps stage
    reply_in (at.Asks word) (retains, names, t, (over, inside)) (h, n, named, asked) whole true = (
      n ∷ done,
      (n, named, refl),
      further_covers hash c blocks p entered (within t over) p.met (n ∷ done) (next_is t over inside)
          (adds c entered p.table.turn p.place p.purpose done p.met h n asked (subst (λ (x : Purpose). IsKept x n (n ∷ done)) (sym retains) (let new = times_new n n done refl in omega (arith, new)))),
    )
    reply_in (at.Asks word) point h whole false = (done, refl, h.0)
    reply_in at.Reads point h whole keeps = same_done keeps at.Reads (λ word e. cc e) whole
    reply_in at.Follows point h whole keeps = same_done keeps at.Follows (λ word e. cc e) whole
    reply_in (at.Copies copier) point h whole keeps = same_done keeps (at.Copies copier) (λ word e. cc e) whole
    reply_in at.Ready point h whole keeps = same_done keeps at.Ready (λ word e. cc e) whole
    reply_in at.Words point h whole keeps = same_done keeps at.Words (λ word e. cc e) whole
    reply_in (at.Tries word) point h whole keeps = same_done keeps (at.Tries word) (λ word e. cc e) whole
    reply_in (at.Counts removed) point h whole keeps = same_done keeps (at.Counts removed) (λ word e. cc e) whole
    reply_in (at.Disposes dispose) point h whole keeps = same_done keeps (at.Disposes dispose) (λ word e. cc e) whole
    reply_in at.Over point h whole keeps = same_done keeps at.Over (λ word e. cc e) whole
    reply_in (at.Refused fault) point h whole keeps = same_done keeps (at.Refused fault) (λ word e. cc e) whole

-- the promise
pub sweeps_are_told_on : {K : Type 0} (V : Type 0) (same : K → K → Bool) (hash : K → ℕ) → SweepsAreRepliedOn V same hash
sweeps_are_told_on V same hash setting w caller c blocks began p map f entered done h =
    (next_in same hash setting w caller c blocks began p map f entered done p.stands refl f.point h, reply_in same hash setting w caller c blocks began p map f entered done p.stands f.point h h)
