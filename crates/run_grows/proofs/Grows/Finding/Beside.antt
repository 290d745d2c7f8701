-- What steps of calls find by is so after a step that is of no call, which leaves calls and pairs as they are.
use Rattle.std.specs.Prelude.{◌≡◌, ◌≤◌, ℕ, Bool, true, false, List, find, length, Option, Some}
use Rattle.std.proofs.Common.{refl, ap, sym, subst, ◌∙◌}
use Rattle.run_schedules.specs.Runs.Same.{is_same}
use Rattle.run_schedules.specs.Schedules.Moment.{Behind, GivenBack, Handed, InMap, Left, Moment, Out, Place, Unborn, UnderWay as CallThere}
use Rattle.run_schedules.specs.Schedules.Views.{is_in_a_map}
use Rattle.run_finds.specs.Given.CallersTogether.{OnKey, UnderWay}
use Rattle.run_finds.specs.Given.EffectsKnown.{Known}
use Rattle.run_finds.specs.Given.MomentsWhole.{RefinesWhole}
use Rattle.run_finds.proofs.Given.MomentsBeside.{IsBeside}
use Rattle.run_finds.specs.Capacities.{RefinesCapacities}
use Rattle.run_finds.specs.Waits.{LeavesPending}
use Rattle.run_finds.specs.Within.{many_of}
use Rattle.run_finds.proofs.Grows.Between.{growing_stays}
use Rattle.run_grows.proofs.Waits.Between.{waits_stay}
use Rattle.run_grows.specs.Grows.Finding.{RefinesFinding}
use Rattle.run_grows.proofs.Grows.Finding.Alike.{held_in, map_same}
use Rattle.run_grows.proofs.Grows.Finding.Making.Between.{further_stays}
use Rattle.run_grows.proofs.Grows.Finding.Making.Lengths.{KeepsLengths}
use Rattle.run_grows.proofs.Grows.Finding.Puts.{puts_beside}
use Rattle.run_finds.specs.Given.ScenesHeld.{Held, IsAt}
use Rattle.run_finds.specs.Given.ScenesScene.{Scene}
use Rattle.run_finds.proofs.Given.General.{at_most_itself as itself}

-- a place is in a map, or in none
in_which : (p : Place) → is_in_a_map p ≡ true → (map : ℕ) × (p ≡ InMap map)
in_which (InMap map) is = (map, refl)
in_which Unborn is = absurd (cc is)
in_which Out is = absurd (cc is)
in_which Handed is = absurd (cc is)
in_which Behind is = absurd (cc is)
in_which Left is = absurd (cc is)
in_which GivenBack is = absurd (cc is)

module _ {K V : Type 0} (same : K → K → Bool) (hash : ℕ → K → ℕ) (name : ℕ → List ℕ) (m v : Moment K V) (known known2 : Known) (s t : Scene K V) (e : Held K V) (at : IsAt same hash e t)
    (whole : RefinesWhole same name v known2 t) (beside : IsBeside m v known known2 s t) (finding : RefinesFinding name m known s) where
  -- who is in no map stays so
  out_still : (k : ℕ) → is_in_a_map (m.place k) ≡ false → is_in_a_map (v.place k) ≡ false
  out_still k out = by (is_in_a_map (v.place k)) refl
    where
      by : (q : Bool) → is_in_a_map (v.place k) ≡ q → is_in_a_map (v.place k) ≡ false
      by false is = is
      by true is =
          let there = in_which (v.place k) is in
          absurd (let before : is_in_a_map (m.place k) ≡ true = ap is_in_a_map (beside.place k there.0 there.1) in cc (before, out))

  pub finding_beside : v.spot ≡ m.spot → ((of : ℕ) → many_of of m ≤ many_of of v) → KeepsLengths m v → RefinesCapacities v t → RefinesFinding name v known2 t
  finding_beside spot later keeps capacities = record {
    growing = growing_stays K V m v s t finding.growing later (λ map i u is. (u, was map i (OnKey u) is, refl));
    further = further_stays m v s t finding.further keeps (λ map i u is. (u, was map i u is, refl));
    capacities = capacities;
    waits = waits_stay K V name m v s t finding.waits leaves (λ map i u is word some d d_is. (u, was map i u is, refl, d, ap (λ (l : List (CallThere K V)). find (λ y. is_same y.caller (name i)) l) (sym beside.calls) ∙ d_is, refl));
    puts = puts_beside same hash name v known known2 s t e at whole beside.same_calls beside.roles finding.puts;
  }
    where
      was : (map i : ℕ) (u : UnderWay K V K) → t.calls map i ≡ Some u → s.calls map i ≡ Some u
      was map i u is = ap (λ (f : ℕ → ℕ → Option (UnderWay K V K)). f map i) (sym beside.same_calls) ∙ is

      more : length m.stored ≤ length v.stored
      more = subst (λ (xs : List (K × V)). length m.stored ≤ length xs) (sym beside.stored) (itself (length m.stored))

      leaves : LeavesPending t m v
      leaves map i u is k waits held = held_in m v more beside.born spot map (map_same m v beside.maps map) k (out_still k held.0.1 ∙ sym held.0.1) waits held
