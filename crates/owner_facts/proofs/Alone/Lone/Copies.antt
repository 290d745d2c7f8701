-- In incremental mode, a copier that is alone never waits: a place that is marked is settled or its own, and a table that is counted whole is promoted.
use Rattle.std.specs.Prelude.{◌==◌, ◌&&◌, ◌/◌, not, eqb}
use Rattle.std.proofs.Common.{◌≡◌, ℕ, zero, suc, ◌+◌, ◌^◌, ◌<◌, Bool, true, false, cond, ◌⊎◌, inl, inr, eq-or-lt_of_le, refl, ap, sym, subst, ◌∙◌, arith}
use Rattle.std.proofs.lemmas.Bool.{eq-eqb, eqb-true, eqb-false}
use Rattle.many_maps.specs.Given.SeizeWordsMem.{Mem}
use Rattle.many_maps.specs.Given.SeizeWorld.{World}
use Rattle.many_maps.specs.Given.TablesChunks.{is_incremental}
use Rattle.many_maps.specs.Given.ResizeCopierMarks.{is_mine}
use Rattle.many_maps.specs.Given.TablesMarks.{has_mark}
use Rattle.many_maps.specs.Given.TablesDeclared.marks.TheConstants.{COPIED}
use Rattle.many_maps.specs.Given.TablesDeclared.node.Node.{Node}
use Rattle.many_maps.specs.Given.ResizeDeclared.yielding.Yielding.{Yielding}
use Rattle.many_maps.specs.Given.TablesDeclared.setting.Setting.{Setting}
use Rattle.many_maps.specs.Given.TablesDeclared.status.TheConstants.Status.{PROMOTED}
use Rattle.many_maps.specs.Given.TablesDeclared.table.Table.{Table}
use Rattle.many_maps.specs.Given.ResizeDeclared.copier.Copier.{Copier}
use Rattle.many_maps.specs.Given.ResizeDeclared.copier.Copying.TheVariants as at
use Rattle.many_maps.specs.Given.RuleChart.{Still, Copying, Copied, Place, Empty, Tombstone, Holds, Share, Free, Claimed, Done, Counted, Lost, Chart, is_marked, is_settled, is_counted}
use Rattle.many_maps.specs.Given.RuleRule.{Rule, Agrees, total}
use Rattle.many_maps.specs.Given.RuleMoves.{is_of_caller, is_done_by, with_counted}
use Rattle.many_maps.specs.Given.RuleWords.{Blocks, byte_of, word_of, place_word}
use Rattle.many_maps.specs.Given.RuleMaps.{spot_of}
use Rattle.many_maps.specs.Given.RuleInWorld.{IsMapIn}
use Rattle.many_maps.specs.Given.PointsFactsCopies.{CopyingFacts}
use Rattle.many_maps.specs.Given.PointsMeasures.{OthersIdle}
use Rattle.many_maps.proofs.Given.PointsCopiers.Marks.{settled_marked, is_word, mine_is}
use Rattle.many_maps.proofs.Given.RuleWords.PlaceWordsMarks.{pair_copied}
use Rattle.many_maps.proofs.Given.RuleMoves.Totals.{total_with_counted}
use Rattle.many_maps.proofs.Given.RuleWords.TablesSeen.{status_there}
use Rattle.many_maps.proofs.Given.RuleWorld.WentIncremental.{rule_incremental}
use Rattle.owner_facts.specs.Alone.FactsAlone.{AllAnnounced, IsUncounted}
use Rattle.owner_facts.proofs.Alone.Lone.CopierSteps.{AwaitsPlace, AwaitsStatus}

-- what another caller has, no idle one has
pub others_none : (caller i : ℕ) (share : Share) → ((j : ℕ) → (j ≡ caller → ⊥) → is_of_caller j share ≡ false) → is_of_caller i share ≡ true → i ≡ caller
others_none caller i share idle own = by (eqb i caller) refl
  where
    by : (b : Bool) → eqb i caller ≡ b → i ≡ caller
    by true e = eqb-true i caller e
    by false e = absurd (let none = idle i (eqb-false i caller e) in cc (none, own))

-- where no other caller has it, a place that is marked is settled, or it is claimed by this one
pub settled_or_own : (caller : ℕ) (share : Share) (place : Place) → ((j : ℕ) → (j ≡ caller → ⊥) → is_of_caller j share ≡ false) → Agrees share place → is_marked place ≡ true
    → (is_settled place ≡ true) ⊎ (share ≡ Claimed caller)
settled_or_own caller Free place idle agrees marked = absurd (cc (agrees, marked))
settled_or_own caller (Claimed i) place idle agrees marked = inr (ap Claimed (others_none caller i (Claimed i) idle (eq-eqb i i refl)))
settled_or_own caller (Done i) place idle agrees marked = inl agrees
settled_or_own caller Counted place idle agrees marked = inl agrees
settled_or_own caller Lost place idle agrees marked = absurd agrees

-- a place that is settled is counted, or this caller has done it
pub counted_or_own : (caller : ℕ) (share : Share) (place : Place) → ((j : ℕ) → (j ≡ caller → ⊥) → is_of_caller j share ≡ false) → Agrees share place → is_settled place ≡ true
    → (share ≡ Counted) ⊎ (share ≡ Done caller)
counted_or_own caller Free place idle agrees settled = absurd (let marked = settled_marked place settled in cc (agrees, marked))
counted_or_own caller (Claimed i) place idle (n, borrowed, is) settled = absurd (let copying = ap is_settled is in cc (copying, settled))
counted_or_own caller (Done i) place idle agrees settled = inr (ap Done (others_none caller i (Done i) idle (eq-eqb i i refl)))
counted_or_own caller Counted place idle agrees settled = inl refl
counted_or_own caller Lost place idle agrees settled = absurd agrees

-- a place that is settled is awaited by none
pub settled_goes : (block byte : ℕ → ℕ) (whole : Bool) (place : Place) → is_settled place ≡ true
    → (whole && not (word_of block byte place / 2048 == 0) && not (has_mark (word_of block byte place) COPIED)) ≡ false
settled_goes block byte true (Empty true) settled = refl
settled_goes block byte false (Empty true) settled = refl
settled_goes block byte whole (Empty false) settled = absurd (cc settled)
settled_goes block byte true (Tombstone true) settled = refl
settled_goes block byte false (Tombstone true) settled = refl
settled_goes block byte whole (Tombstone false) settled = absurd (cc settled)
settled_goes block byte whole (Holds n Still borrowed) settled = absurd (cc settled)
settled_goes block byte whole (Holds n Copying borrowed) settled = absurd (cc settled)
settled_goes block byte whole (Holds n Copied borrowed) settled =
    by whole (word_of block byte (Holds n Copied borrowed) / 2048 == 0) (has_mark (word_of block byte (Holds n Copied borrowed)) COPIED) (pair_copied block byte n Copied borrowed)
  where
    by : (a b d : Bool) → d ≡ true → (a && not b && not d) ≡ false
    by true true true e = refl
    by true false true e = refl
    by false b true e = refl
    by a b false e = absurd (cc e)

-- where each counts one, there are as many
pub total_ones : {X : Type 0} (f : X → ℕ) (d : ℕ → X) (n : ℕ) → ((j : ℕ) → j < n → f (d j) ≡ 1) → total f d n ≡ n
total_ones f d zero h = refl
total_ones f d (suc n) h = let ih = total_ones f d n (λ j l. h j (omega arith)) in omega (arith, ih, h n (omega arith))

-- what is counted, or this caller's, is counted with it
counted_with : (caller : ℕ) (share : Share) → (share ≡ Counted) ⊎ (share ≡ Done caller) → is_counted (with_counted caller share) ≡ 1
counted_with caller share (inl e) = ap (λ (s : Share). is_counted (with_counted caller s)) e
counted_with caller share (inr e) = ap (λ (s : Share). is_counted (with_counted caller s)) e ∙ ap (λ (b : Bool). is_counted (cond b Counted (Done caller))) (eq-eqb caller caller refl)

module _ {K V : Type 0} (same : K → K → Bool) (hash : K → ℕ) (caller : ℕ) (setting : Setting) (w : World (Node K V)) (c : Chart K) (blocks : Blocks)
    (map : IsMapIn same hash setting w c blocks) (bits : is_incremental setting.mode ≡ true) (idle : OthersIdle caller c) (p : Copier) (is : p.setting ≡ setting)
    (m2 : Mem (Node K V)) (end : Copier × Yielding (Node K V) Table) where
  rule : Rule same (spot_of hash) true c
  rule = rule_incremental same hash setting w c blocks map bits

  -- no place is awaited
  pub awaits_no_place : (fits : (k : K) → hash k < 2 ^ 64) → CopyingFacts same hash w caller setting c blocks p at.Marks → AwaitsPlace p w.memory m2 end → ⊥
  awaits_no_place fits f (word, read, own, waits) = by (eq-or-lt_of_le f.1.2)
    where
      place : Place
      place = c.place f.0 p.place

      never : is_settled place ≡ true → ⊥
      never settled =
          let goes = settled_goes blocks.pair (λ n. byte_of hash (c.key n)) p.whole place settled in
          let awaited : (p.whole && not (word / 2048 == 0) && not (has_mark word COPIED)) ≡ true = waits in
          let seen : word ≡ place_word hash c blocks place = is_word same hash caller setting w c blocks map fits p is f bits word read in
          let then = subst (λ (x : ℕ). (p.whole && not (x / 2048 == 0) && not (has_mark x COPIED)) ≡ true) seen awaited in
          cc (sym goes ∙ then)

      marked : is_marked place ≡ true
      marked = by_mark (is_marked place) (mine_is same hash caller setting w c blocks map fits p is f bits word read)
        where
          by_mark : (b : Bool) → is_mine p word ≡ not b → b ≡ true
          by_mark true e = refl
          by_mark false e = absurd (cc (e, own))

      by : (f.0 ≡ c.first) ⊎ (f.0 < c.first) → ⊥
      by (inr l) = never (rule.in_mode.settled f.0 p.place l f.4.0)
      by (inl e) = either (settled_or_own caller (c.share (suc c.first) p.place) place (λ i other. idle i (suc c.first) p.place other)
          (subst (λ (t : ℕ). p.place < c.len t → Agrees (c.share (suc c.first) p.place) (c.place t p.place)) (sym e) (rule.in_mode.shares p.place) f.4.0) marked)
        where
          either : (is_settled place ≡ true) ⊎ (c.share (suc c.first) p.place ≡ Claimed caller) → ⊥
          either (inl settled) = never settled
          either (inr claimed) = f.3 p.place claimed

  -- no status is awaited
  pub awaits_no_status : AllAnnounced c → IsUncounted c → CopyingFacts same hash w caller setting c blocks p at.Asks → AwaitsStatus p w.memory m2 end → ⊥
  awaits_no_status announced uncounted f (status, read, other) = by (eq-or-lt_of_le f.1.2)
    where
      is_status : status ≡ c.status (suc f.0)
      is_status = let there = status_there hash w.memory c blocks setting.root map.map.shows p.target (suc f.0) f.1.1 in cc (there, read)

      by : (f.0 ≡ c.first) ⊎ (f.0 < c.first) → ⊥
      by (inr l) = eqb-false status PROMOTED other (is_status ∙ announced (suc f.0) (omega arith) f.1.1.made)
      by (inl e) = (let few = uncounted made in omega (arith, few, counts, sums, full, done))
        where
          made : c.first < c.past
          made = let m = f.1.1.made in omega (arith, m, e)

          counts : c.copied (suc c.first) ≡ total is_counted (c.share (suc c.first)) (c.len c.first)
          counts = let m = f.1.1.made in rule.common.counts (suc c.first) (omega arith) (omega (arith, m, e))

          sums : total is_counted (λ j. with_counted caller (c.share (suc c.first) j)) (c.len c.first)
              ≡ total is_counted (c.share (suc c.first)) (c.len c.first) + total (is_done_by caller) (c.share (suc c.first)) (c.len c.first)
          sums = total_with_counted caller (c.share (suc c.first)) (c.len c.first)

          done : 0 ≡ total (is_done_by caller) (c.share (suc c.first)) (c.len c.first)
          done = f.3

          all_settled : (j : ℕ) → j < c.len c.first → is_settled (c.place c.first j) ≡ true
          all_settled = subst (λ (t : ℕ). (j : ℕ) → j < c.len t → is_settled (c.place t j) ≡ true) e (f.7 f.6)

          full : total is_counted (λ j. with_counted caller (c.share (suc c.first) j)) (c.len c.first) ≡ c.len c.first
          full = total_ones is_counted (λ j. with_counted caller (c.share (suc c.first) j)) (c.len c.first)
              (λ j l. counted_with caller (c.share (suc c.first) j)
              (counted_or_own caller (c.share (suc c.first) j) (c.place c.first j) (λ i ne. idle i (suc c.first) j ne) (rule.in_mode.shares j l) (all_settled j l)))
