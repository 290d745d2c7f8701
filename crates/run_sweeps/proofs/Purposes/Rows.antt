-- What is of no call leaves what calls on whole maps have come to: no pair of a map comes or goes.
use Rattle.std.specs.Prelude.{◌≡◌, ℕ, ◌==◌, ◌<◌, ◌≤◌, Bool, List, find, Option, Some, ◌⊎◌}
use Rattle.std.proofs.Common.{ap, sym, subst, ◌∙◌, arith, inl, inr}
use Rattle.run_finds.specs.Given.TablesChunks.{is_incremental}
use Rattle.run_finds.specs.Given.ReservesDeclared.sweep.Purpose.TheVariants.{Walks}
use Rattle.run_finds.specs.Given.RunsSame.{is_same}
use Rattle.run_finds.specs.Given.SchedulesMoment.{MapThere, UnderWay as CallThere, Moment}
use Rattle.run_finds.specs.Given.SchedulesViews.{call_of, is_in_map, finite_map}
use Rattle.run_finds.specs.Given.RuleChart.{Chart}
use Rattle.run_finds.specs.Given.CallersOverAll.{CallOverAll}
use Rattle.run_finds.specs.Given.CallersTogether.{UnderWay, OverAll}
use Rattle.run_finds.specs.Given.EffectsKnown.{Known}
use Rattle.run_finds.specs.Given.FinishesMaps.{Standing}
use Rattle.run_finds.specs.Given.OthersAfter.{RefinesAfter}
use Rattle.run_finds.proofs.Given.MomentsBeside.{IsBeside, StoodSo, StandsNew}
use Rattle.run_finds.specs.Given.ChangesHad.{HadThen}
use Rattle.run_finds.specs.Given.ChangesHistories.{since, IsWithin}
use Rattle.run_finds.proofs.Given.ChangesHad.{had_on, had_one}
use Rattle.run_finds.proofs.Given.ChangesNow.{now_had}
use Rattle.run_finds.proofs.Given.ChangesWithin.{within_on}
use Rattle.run_finds.proofs.Given.ChangesLater.{IsLater, same_later}
use Rattle.run_finds.specs.Purposes.Purposes.{KeysOf, HasSwept, HasCome, RefinesPurposes}
use Rattle.run_sweeps.proofs.Purposes.Alike.{alike}
use Rattle.run_sweeps.proofs.Purposes.KeysCarried.{StandsMoved, keys_kept}
use Rattle.run_sweeps.proofs.Purposes.Over.{come_over}
use Rattle.run_sweeps.proofs.Purposes.Present.{now_stored, now_there, absent}
use Rattle.run_sweeps.proofs.Purposes.Shown.{same_still}
use Rattle.run_finds.specs.Given.ScenesHeld.{Held, IsAt}
use Rattle.run_finds.specs.Given.ScenesScene.{Scene, slot_of}
use Rattle.run_finds.specs.Given.SchedulesTransition.{Past}
use Rattle.run_finds.proofs.Given.FollowsContents.{lasts_same}
use Rattle.run_sweeps.proofs.Purposes.Stored.{numbers_last}
use Rattle.run_finds.proofs.Given.General.{same_some as one_of}

module _ {K V : Type 0} (same : K → K → Bool) (hash : ℕ → K → ℕ) (name : ℕ → List ℕ) (log : Past K V) (m m2 : Moment K V) (known known2 : Known) (s s2 : Scene K V) (old new : Held K V)
    (at : IsAt same hash old s) (at2 : IsAt same hash new s2) (purposes : RefinesPurposes same name log m known s) (after : RefinesAfter same name m known s purposes.shown m2 known2 s2)
    (beside : IsBeside m m2 known known2 s s2) where
  was_here : (n j : ℕ) (x : UnderWay K V K) → s2.calls n j ≡ Some x → s.calls n j ≡ Some x
  was_here n j x is = subst (λ (f : ℕ → ℕ → Option (UnderWay K V K)). f n j ≡ Some x) beside.same_calls is

  was_called : (j : ℕ) (c : CallThere K V) → call_of (name j) m2 ≡ Some c → call_of (name j) m ≡ Some c
  was_called j c found = ap (λ (cs : List (CallThere K V)). find (λ x. is_same x.caller (name j)) cs) (sym beside.calls) ∙ found

  -- on a map that stood so
  module _ (n j : ℕ) (x : UnderWay K V K) (is : s2.calls n j ≡ Some x) (st : Standing K) (there : s2.maps n ≡ Some st) (c : CallThere K V) (found : call_of (name j) m2 ≡ Some c)
      (stood : StoodSo known known2 s s2 n st) where
    abbrev before : Standing K
    before = stood.0

    later : IsLater before.chart st.chart
    later = subst (IsLater before.chart) (sym stood.2) (same_later before.chart)

    first : before.chart.first ≤ st.chart.first
    first = let e = ap (λ (c : Chart K). c.first) stood.2 in omega (arith, e)

    numbers : (o : ℕ) → o < before.chart.stored → after.shows.number n o ≡ purposes.shown.number n o
    numbers o l = ap (λ (f : ℕ → ℕ). f o) (after.numbers n before stood.1)

    same_pairs : (q : ℕ) → is_in_map n (m2.place q) ≡ is_in_map n (m.place q)
    same_pairs q =
        alike n m m2 known known2 before st (purposes.shown.number n) (after.shows.number n) (purposes.shown.maps n before stood.1).pairs (after.shows.maps n st there).pairs
        (ap (λ (c : Chart K). c.stored) stood.2) (ap (λ (c : Chart K). c.current) stood.2) numbers q

    stood_come : HasCome same n st (after.shows.number n) log m2 x c
    stood_come =
        come_over same n before st (purposes.shown.number n) (after.shows.number n) later first numbers log purposes.past m m2 c c (same_still c) (purposes.begun n j x (was_here n j x is) c (was_called j c found))
        (λ q. inl (same_pairs q)) (now_stored same hash name m2 known2 s2 new at2 after.shows n st there) (now_there same hash name m2 known2 s2 new at2 after.shows n st there)
        (absent same hash name m known s old at purposes.shown n before stood.1 (after.shows.number n) st.chart.stored (after.shows.maps n st there).pairs.rising numbers) x keys classes
        (purposes.come n j x (was_here n j x is) before stood.1 c (was_called j c found))
      where
        same_modes : st.setting.mode ≡ before.setting.mode
        same_modes =
            let a = (after.shows.maps n st there).there in
            let b = (purposes.shown.maps n before stood.1).there in
            let one = one_of a.there b.there (sym a.is ∙ ap (λ (fs : List MapThere). find (λ f. f.number == n) fs) beside.maps ∙ b.is) in
            sym a.mode ∙ ap (λ (f : MapThere). f.mode) one ∙ b.mode

        how : StandsMoved same 0 before st
        how = record { hash = at2.hashes n st there ∙ sym (at.hashes n before stood.1); mode = ap is_incremental same_modes; moved = inl stood.2 }

        -- its finite map is the same
        now_then : (k : K) → HadThen same st (after.shows.number n) st.chart.now k (finite_map same n m2 k)
        now_then k =
            now_had same n (after.shows.number n) st m2 known2 s2.world (s2.calls n) (at2.together.makings.standing.fit n st there).0 (at2.together.makings.standing.each n st there)
            (after.shows.maps n st there).pairs after.shows.blocks k

        same_then : (k : K) → finite_map same n m2 k ≡ finite_map same n m k
        same_then k =
            had_one same st (after.shows.number n) st.chart.now k (finite_map same n m2 k) (finite_map same n m k) (now_then k)
            (subst (λ (t : ℕ). HadThen same st (after.shows.number n) t k (finite_map same n m k)) (sym (ap (λ (c : Chart K). c.now) stood.2))
            (had_on same before st (purposes.shown.number n) (after.shows.number n) later numbers before.chart.now (omega arith) k (finite_map same n m k)
            (now_had same n (purposes.shown.number n) before m known s.world (s.calls n) (at.together.makings.standing.fit n before stood.1).0 (at.together.makings.standing.each n before stood.1)
            (purposes.shown.maps n before stood.1).pairs purposes.shown.blocks k)))

        classes : (began : ℕ) → IsWithin same n before (purposes.shown.number n) (since log m c) began → IsWithin same n st (after.shows.number n) (since log m2 c) began
        classes began =
            within_on same n before st (purposes.shown.number n) (after.shows.number n) later numbers log purposes.past m m2 c.begun (purposes.begun n j x (was_here n j x is) c (was_called j c found))
            (λ k. inl (same_then k)) now_then began

        keys : (o : CallOverAll) → x ≡ OverAll o → HasSwept same n before (purposes.shown.number n) (since log m c) o c → o.sweep.purpose ≡ Walks → KeysOf same st o
        keys o o_is h walks =
            keys_kept same 0 before st how (at.together.makings.standing.fit n before stood.1).0 (at.together.makings.standing.fit n before stood.1).1 slot_of s.world (s.calls n)
            (at.together.makings.standing.each n before stood.1) j o (was_here n j x is ∙ ap Some o_is) h.within.stored h.stored (h.keys walks)

  pub beside_purposes : RefinesPurposes same name log m2 known2 s2
  beside_purposes = record {
    past = purposes.past;
    lasts = numbers_last log m m2 (lasts_same m.stored m2.stored beside.stored) purposes.lasts;
    shown = after.shows;
    begun = λ n j x is c found. purposes.begun n j x (was_here n j x is) c (was_called j c found);
    is_for = λ n j x is c found. purposes.is_for n j x (was_here n j x is) c (was_called j c found);
    come = λ n j x is st there c found. come_so n j x is st there c found (beside.stood n st there);
  }
    where
      -- on a new one no call is under way
      come_so : (n j : ℕ) (x : UnderWay K V K) (is : s2.calls n j ≡ Some x) (st : Standing K) (there : s2.maps n ≡ Some st) (c : CallThere K V) (found : call_of (name j) m2 ≡ Some c)
          → StoodSo known known2 s s2 n st ⊎ StandsNew known known2 s s2 n → HasCome same n st (after.shows.number n) log m2 x c
      come_so n j x is st there c found (inl stood) = stood_come n j x is st there c found stood
      come_so n j x is st there c found (inr new_map) = absurd (let none = new_map.0 j in cc (none, is))
