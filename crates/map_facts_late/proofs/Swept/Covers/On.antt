-- What a sweep comes to where it goes on.
use Rattle.std.specs.Prelude.{◌≡◌, ◌≢◌, ℕ, suc, ◌+◌, ◌%◌, ◌^◌, ◌<◌, ◌≤◌, ◌==◌, Bool, true, false, nat_lt, ◌&&◌, List, ◌∷◌, if◌then◌else◌}
use Rattle.std.proofs.Common.{refl, ap, inr, sym, subst, arith}
use Rattle.std.proofs.lemmas.Bool.{ltb-false, eqb-false, eqb-true}
use Rattle.map_facts.specs.Given.SeizeWordsWord.{block_in}
use Rattle.map_facts.specs.Given.TablesMarks.{has_mark}
use Rattle.map_facts.specs.Given.TablesDeclared.marks.TheConstants.{COPYING}
use Rattle.map_facts.specs.Given.TablesDeclared.status.TheConstants.Status.{ABORTED}
use Rattle.map_facts.specs.Given.SweepsSweepPoints.{removes, further, told, telling, at_pair, seen}
use Rattle.map_facts.specs.Given.ReservesDeclared.sweep.Purpose.{Purpose}
use Rattle.map_facts.specs.Given.ReservesDeclared.sweep.Purpose.TheVariants.{Walks, Clears, Retains}
use Rattle.map_facts.specs.Given.ReservesDeclared.sweep.Sweep.{Sweep}
use Rattle.map_facts.specs.Given.ReservesDeclared.sweep.Sweeping.{Sweeping}
use Rattle.map_facts.specs.Given.ReservesDeclared.sweep.Sweeping.TheVariants as at
use Rattle.map_facts.specs.Given.ReservesDeclared.sweep.Swept.{Swept}
use Rattle.map_facts.specs.Given.RuleChart.{Phase, Holds, Chart}
use Rattle.map_facts.specs.Given.RuleRule.{Common, IsLawful}
use Rattle.map_facts.specs.Given.RuleWords.{Blocks, byte_of, place_word}
use Rattle.map_facts.specs.Given.RuleMaps.{spot_of}
use Rattle.map_facts.proofs.Given.RuleWords.PlaceWordsRead.{word-pair}
use Rattle.map_facts_late.specs.Covers.{IsKept, Came, Covers, Asked, NamesPair, CoversAt}
use Rattle.map_facts_late.specs.CoversSweeps.{DoneBy}
use Rattle.map_facts_late.proofs.Swept.Covers.Passes.{times_new, passes, adds, asked_of}

-- a point that is told shows no pair
pub done_told : {K : Type 0} (T : Type 0) (hash : K → ℕ) (c : Chart K) (blocks : Blocks) (done : List ℕ) (stage : Sweeping) → DoneBy hash c blocks done done (told {T = T} stage)
done_told T hash c blocks done at.Reads = refl
done_told T hash c blocks done at.Follows = refl
done_told T hash c blocks done (at.Copies copier) = refl
done_told T hash c blocks done at.Ready = refl
done_told T hash c blocks done at.Words = refl
done_told T hash c blocks done (at.Asks word) = refl
done_told T hash c blocks done (at.Tries word) = refl
done_told T hash c blocks done (at.Counts removed) = refl
done_told T hash c blocks done (at.Disposes dispose) = refl
done_told T hash c blocks done at.Over = refl
done_told T hash c blocks done (at.Refused fault) = refl

-- and nothing else is done
pub none_and : (r met : Bool) → (r && met) ≡ false → (r ≡ true → met ≡ false)
none_and true met e is = e
none_and false met e is = absurd (cc is)

module _ {K : Type 0} (hash : K → ℕ) (c : Chart K) (blocks : Blocks) (p : Sweep) (entered : ℕ) where
  module _ (within : (i n : ℕ) (phase : Phase) (borrowed : Bool) → c.place p.table.turn i ≡ Holds n phase borrowed → i < p.table.len) (met : Bool) (done : List ℕ) where
    -- at its end it has come to what it is for
    pub came_at_end : (place : ℕ) → p.table.len ≤ place → Covers c entered p.table.turn place p.purpose met done → (removes p.purpose && met) ≡ false → Came c entered p.purpose done
    came_at_end place far h unmet = record {
      since = h.since;
      all = λ n always. (let s = h.stands n always in let l = within s.0 n s.1 s.2 s.3 in h.behind unmet s.0 n s.1 s.2 (omega (arith, l, far)) s.3 always);
      shown = h.shown;
    }

    -- its place is behind it
    pub further_covers : (p.place + 1) % 2 ^ 64 ≡ suc p.place → Covers c entered p.table.turn (suc p.place) p.purpose met done
        → CoversAt hash c blocks (further (record p { met = met })) entered done (further (record p { met = met })).stands
    further_covers next h = by (nat_lt ((p.place + 1) % 2 ^ 64) p.table.len) (removes p.purpose && met) refl refl
      where
        h2 : Covers c entered p.table.turn ((p.place + 1) % 2 ^ 64) p.purpose met done
        h2 = subst (λ (x : ℕ). Covers c entered p.table.turn x p.purpose met done) (sym next) h

        by : (more again : Bool) → nat_lt ((p.place + 1) % 2 ^ 64) p.table.len ≡ more → (removes p.purpose && met) ≡ again
            → CoversAt hash c blocks (record p { place = (p.place + 1) % 2 ^ 64; met = met; stands = if more then at.Words else (if again then at.Follows else at.Over) }) entered done
            (if more then at.Words else (if again then at.Follows else at.Over))
        by true again more e = h2
        by false true none e = tt
        by false false none e = came_at_end ((p.place + 1) % 2 ^ 64) (ltb-false ((p.place + 1) % 2 ^ 64) p.table.len none) h2 e

  module _ (same : K → K → Bool) (incremental : Bool) (lawful : IsLawful same (spot_of hash)) (common : Common same (spot_of hash) incremental c) (live : c.status p.table.turn ≢ ABORTED)
      (known : (n : ℕ) (phase : Phase) (borrowed : Bool) → c.place p.table.turn p.place ≡ Holds n phase borrowed → blocks.pair_known n ≡ true)
      (blocks_some : (n : ℕ) (phase : Phase) (borrowed : Bool) → c.place p.table.turn p.place ≡ Holds n phase borrowed → block_in (place_word hash c blocks (c.place p.table.turn p.place)) ≢ 0)
      (some_place : 0 < p.table.len) (next : (p.place + 1) % 2 ^ 64 ≡ suc p.place)
      (within : (i n : ℕ) (phase : Phase) (borrowed : Bool) → c.place p.table.turn i ≡ Holds n phase borrowed → i < p.table.len) where
    -- it has read the word of its place
    module _ (T : Type 0) (done : List ℕ) (h : Covers c entered p.table.turn p.place p.purpose p.met done) where
      abbrev OnTo : Sweep × Swept T → Type 0
      OnTo end = (done2 : List ℕ) × DoneBy hash c blocks done done2 end.1 × CoversAt hash c blocks end.0 entered done2 end.0.stands

      abbrev there : ℕ
      there = place_word hash c blocks (c.place p.table.turn p.place)

      pair_there : block_in there ≢ 0 → (n : ℕ) × (phase : Phase) × (borrowed : Bool) × (c.place p.table.turn p.place ≡ Holds n phase borrowed)
      pair_there some = word-pair blocks.pair (λ o. byte_of hash (c.key o)) (c.place p.table.turn p.place) (omega (arith, some))

      names : (n : ℕ) (phase : Phase) (borrowed : Bool) → c.place p.table.turn p.place ≡ Holds n phase borrowed → NamesPair hash c blocks there n
      names n phase borrowed e = ((common.keyed p.table.turn p.place n phase borrowed e).0, known n phase borrowed e, phase, borrowed, ap (place_word hash c blocks) e)

      asked : (n : ℕ) (phase : Phase) (borrowed : Bool) → c.place p.table.turn p.place ≡ Holds n phase borrowed → Asked c entered p.table.turn p.place done n
      asked n phase borrowed e = asked_of c entered p.table.turn p.place p.purpose done same (spot_of hash) incremental lawful common live p.met h n phase borrowed e

      passed : (met2 : Bool) → ((removes p.purpose && met2) ≡ false → ((removes p.purpose && p.met) ≡ false) × (block_in there ≡ 0)) → OnTo (telling (further (record p { met = met2 })))
      passed met2 here = (
        done,
        done_told T hash c blocks done (further (record p { met = met2 })).stands,
        further_covers within met2 done next
            (passes c entered p.table.turn p.place p.purpose done p.met met2 h
            (λ unmet. ((here unmet).0, λ n phase borrowed e always. absurd (blocks_some n phase borrowed e (here unmet).1)))),
      )

      shows : (purpose : Purpose) → p.purpose ≡ purpose → block_in there ≢ 0 → OnTo (at_pair purpose p there)
      shows Walks is some =
          let e = pair_there some in (
            e.0 ∷ done,
            (e.0, names e.0 e.1 e.2 e.3, refl),
            inr (
              some_place,
              subst (λ (x : ℕ). Covers c entered p.table.turn x p.purpose p.met (e.0 ∷ done)) (sym next)
                  (adds c entered p.table.turn p.place p.purpose done p.met h e.0 (asked e.0 e.1 e.2 e.3)
                  (subst (λ (x : Purpose). IsKept x e.0 (e.0 ∷ done)) (sym is) (let new = times_new e.0 e.0 done refl in omega (arith, new)))),
            ),
          )
      shows Clears is some = (done, refl, h)
      shows Retains is some = let e = pair_there some in (done, refl, (h, e.0, names e.0 e.1 e.2 e.3, asked e.0 e.1 e.2 e.3))

      pub seen_covers : OnTo (seen p (place_word hash c blocks (c.place p.table.turn p.place)))
      seen_covers = by (removes p.purpose) (has_mark there COPYING) (block_in there == 0) refl refl
        where
          by : (r m z : Bool) → removes p.purpose ≡ r → (block_in there == 0) ≡ z
              → OnTo (if r && m then telling (further (record p { met = true })) else (if z then telling (further p) else at_pair p.purpose p there))
          by true true z is zero = passed true (λ unmet. absurd (let m = none_and (removes p.purpose) true unmet is in cc m))
          by true false true is zero = passed p.met (λ unmet. (unmet, eqb-true (block_in there) 0 zero))
          by true false false is zero = shows p.purpose refl (eqb-false (block_in there) 0 zero)
          by false m true is zero = passed p.met (λ unmet. (unmet, eqb-true (block_in there) 0 zero))
          by false m false is zero = shows p.purpose refl (eqb-false (block_in there) 0 zero)
