-- What steps of calls find by is so at another moment with the same tables, maps and pairs, at which calls owe what they have in hand.
use Rattle.std.specs.Prelude.{◌≡◌, ◌≤◌, ◌==◌, ℕ, Bool, List, length, filter, find, Option, Some}
use Rattle.std.proofs.Common.{refl, ap, sym, subst, ◌∙◌, arith}
use Rattle.papaya_raw.specs.Given.TablesLengths.{entries_of}
use Rattle.papaya_raw.specs.Given.TablesDeclared.setting.Setting.{Setting}
use Rattle.run_schedules.specs.declared.effect.Spot.{Spot}
use Rattle.run_schedules.specs.declared.effect.TableId.{TableId}
use Rattle.run_schedules.specs.Schedules.Growing.{Has}
use Rattle.run_schedules.specs.Schedules.Moment.{MapThere, Moment, Place, TableThere}
use Rattle.run_schedules.specs.Schedules.Views.{capacity_or, first_of, first_or, grows_in_chunks, is_in_a_map, map_at}
use Rattle.run_finds.specs.Given.CallersTogether.{OnKey, UnderWay}
use Rattle.run_finds.specs.Given.EffectsKnown.{Known}
use Rattle.run_finds.specs.Given.FinishesMachines.{machine_of}
use Rattle.run_finds.specs.Given.FinishesMaps.{Standing}
use Rattle.run_finds.specs.Given.FollowsCalls.{RefinesCalls as IsThere}
use Rattle.run_finds.specs.Given.SettlesHand.{RefinesObligations}
use Rattle.run_finds.proofs.Given.SettlesHand.Roles.{hand_kept}
use Rattle.run_finds.specs.Capacities.{StoodSo}
use Rattle.run_finds.specs.Linking.{IsMadeFor}
use Rattle.run_finds.specs.Waits.{IsHeldPast, LeavesHeldOf}
use Rattle.run_finds.specs.Within.{many_of}
use Rattle.run_finds.proofs.Capacities.{capacities_stay}
use Rattle.run_finds.proofs.Grows.Between.{growing_stays}
use Rattle.run_grows.proofs.Waits.Between.{waits_follow_owed}
use Rattle.run_grows.proofs.Waits.Held.{lies_same}
use Rattle.run_grows.proofs.Waits.Puts.{puts_stay}
use Rattle.run_grows.specs.Grows.Finding.{RefinesFinding}
use Rattle.run_grows.proofs.Grows.Finding.Making.Between.{further_stays}
use Rattle.run_grows.proofs.Grows.Finding.Making.Lengths.{lengths_same}
use Rattle.run_finds.specs.Given.ScenesScene.{Scene}
use Rattle.run_finds.proofs.Given.General.{at_most_itself as itself}

-- how many tables a map has had, of the same tables
pub many_same : {K V : Type 0} (m v : Moment K V) → v.tables ≡ m.tables → (of : ℕ) → many_of of m ≤ many_of of v
many_same m v tables of =
    subst (λ (ts : List TableThere). length (filter (λ u. u.table.map == of) m.tables) ≤ length (filter (λ u. u.table.map == of) ts)) (sym tables) (itself (many_of of m))

-- A pair that is held so is held so where pairs lie as they lay, of this map, which is there with the same root and mode.
module _ {K V : Type 0} (m v : Moment K V) (stored : length m.stored ≤ length v.stored) (born : v.born ≡ m.born) (spot : v.spot ≡ m.spot) where
  pub held_in : (map : ℕ) → map_at map v ≡ map_at map m → (k : ℕ) → is_in_a_map (v.place k) ≡ is_in_a_map (m.place k) → (waits : Option ℕ) → IsHeldPast map m k waits → IsHeldPast map v k waits
  held_in map there k place waits held = (
    ((let l = held.0.0 in omega (arith, l, stored)), place ∙ held.0.1),
    lies_same map m v k waits (ap (λ (f : ℕ → TableId). f k) born) (ap (λ (f : ℕ → Spot). f k) spot)
        (subst (λ (o : Option MapThere). first_or (map_at map m) ≤ first_or o) (sym there) (itself (first_of map m))) (ap grows_in_chunks there) held.1,
  )

-- the same maps
pub map_same : {K V : Type 0} (m v : Moment K V) → v.maps ≡ m.maps → (map : ℕ) → map_at map v ≡ map_at map m
map_same m v maps map = ap (λ (fs : List MapThere). find (λ f. f.number == map) fs) maps

-- made for as many entries, with the same capacity
pub made_still : {K V : Type 0} (m v : Moment K V) (map : ℕ) (setting : Setting) → capacity_or (map_at map v) ≡ capacity_or (map_at map m) → IsMadeFor map m setting → IsMadeFor map v setting
made_still m v map setting alike made = subst (λ (n : ℕ). Has (entries_of n) setting.initial) (sym alike) made

-- maps stand as they stood
pub stood_as : {K V : Type 0} (s t : Scene K V) → t.maps ≡ s.maps → StoodSo s t
stood_as {K} s t maps n standing is = (standing, ap (λ (f : ℕ → Option (Standing K)). f n) (sym maps) ∙ is, refl)

module _ (K V : Type 0) (same : K → K → Bool) (name : ℕ → List ℕ) (m v : Moment K V) (known : Known) (s t : Scene K V) where
  -- each call that is under way then was so before, and each map that stands then stood so
  pub finding_fewer : IsThere same name m s.calls → RefinesObligations name m known s → RefinesObligations name v known t → ((n j : ℕ) (x : UnderWay K V K) → t.calls n j ≡ Some x → s.calls n j ≡ Some x) → StoodSo s t
      → v.tables ≡ m.tables → v.maps ≡ m.maps → v.place ≡ m.place → v.born ≡ m.born → v.spot ≡ m.spot → v.stored ≡ m.stored → RefinesFinding name m known s → RefinesFinding name v known t
  finding_fewer there owes owes2 was stood tables maps place born spot stored finding = record {
    growing = growing_stays K V m v s t finding.growing (many_same m v tables) (λ map i u is. (u, was map i (OnKey u) is, refl));
    further = further_stays m v s t finding.further (lengths_same m v tables) (λ map i u is. (u, was map i u is, refl));
    capacities = capacities_stay K V m v s t finding.capacities (λ map standing is. ap capacity_or (map_same m v maps map)) stood;
    waits = waits_follow_owed K V same name m v known known s t there owes owes2 finding.waits leaves
        (λ map i u is word some. (u, was map i u is, refl, hand_kept known known (λ b lasts. refl) (machine_of u) (owes.noted map i u (was map i u is))));
    puts = puts_stay K V known known s t finding.puts (λ map i u is word place due. (u, was map i u is, refl, λ b its. refl));
  }
    where
      more : length m.stored ≤ length v.stored
      more = subst (λ (xs : List (K × V)). length m.stored ≤ length xs) (sym stored) (itself (length m.stored))

      leaves : (map i : ℕ) (u : UnderWay K V K) → t.calls map i ≡ Some u → LeavesHeldOf map m v
      leaves map i u is k waits held = held_in m v more born spot map (map_same m v maps map) k (ap (λ (f : ℕ → Place). is_in_a_map (f k)) place) waits held
