-- What is promised of the rule by which one seat acts alone in a memory of maps.
use Rattle.std.specs.Prelude.{◌≡◌, ℕ, ◌<◌, ◌^◌, Bool, List, Option, Some}
use Rattle.seize_words.specs.OneMemory.Mem.{Mem}
use Rattle.seize.specs.declared.rows.reclaim_all.ReclaimAll.{ReclaimAll}
use Rattle.seize.specs.declared.rows.reclaim_all.Reclaiming.TheVariants as at
use Rattle.map_tables.specs.declared.node.Node.{Node}
use Rattle.many_acts.specs.Given.ReclaimsReclaims.{AllIsReclaimed}
use Rattle.many_acts.specs.Given.ScenesScene.{slot_of}
use Rattle.many_acts.specs.Acts.Doings.{Doing}
use Rattle.many_acts.specs.Acts.Lists.{Course, Reached, LedTo}
use Rattle.seize_seats.specs.Seats.Errands.{RenewsInto}
use Rattle.seize_seats.specs.Seats.Start.{WasKnown}
use Rattle.seize_views.specs.declared.view.Fixed.{Fixed}
use Rattle.seize_views.specs.declared.view.SlotView.TheVariants.{Rests}
use Rattle.seize_reclaims.specs.declared.alone.Alone.TheVariants.{Reclaims}
use Rattle.threads_rule.specs.Views.Notes.{SeatIsQuiescent}
use Rattle.threads_rule.specs.Views.Rule.{Holds}
use Rattle.threads_rule.specs.declared.view.View.{View}
use Rattle.threads_reclaims.specs.Reclaims.Rule.{HoldsOne, one_first, kept_of, acts_of}
use Rattle.threads_reclaims.specs.declared.sole.Sole.{Sole}
use Rattle.threads_reclaims.specs.declared.sole.Sole.TheVariants.{Left}

-- A list of acts has led to a scene of this memory, and there nothing waits, but what is deferred behind tables of maps that stand.
pub record IsReclaimed {K V S : Type 0} (same : K → K → Bool) (hash : S → K → ℕ) (fixed : Fixed) (m : Mem (Node K V)) : Type 0 where
  pub course : Course V same hash fixed.batch_size fixed.roots slot_of
  pub doings : List (Doing K V S)
  pub reached : Reached V same hash fixed.batch_size fixed.roots slot_of
  pub led : LedTo V same hash fixed.batch_size fixed.roots slot_of course doings reached
  pub memory : m ≡ reached.0.0.world.memory
  pub nothing : AllIsReclaimed fixed.roots reached.0.0.world reached.0.0.maps

module _ {K S : Type 0} (V : Type 0) (same : K → K → Bool) (hash : S → K → ℕ) where
  -- where each seat has nothing under way the memory may go under this rule, with the same seats; the one that acts then holds no slot
  abbrev pub OneBegins : Type 0
  OneBegins =
      (fixed : Fixed) (id : ℕ) (v : View K V S) → v.slot ≡ Rests
      → RenewsInto SeatIsQuiescent (Holds {V = V} same hash fixed) (HoldsOne same hash fixed) id v Left (one_first fixed v)

  -- where its machine is over the memory goes back
  abbrev pub OneEnds : Type 0
  OneEnds =
      (fixed : Fixed) (id : ℕ) (v : Sole K V S) (c : ReclaimAll) (seen : Option (ℕ × Node K V)) (left : ℕ) → fixed.batch_size < 2 ^ 64
      → acts_of v ≡ Some (Reclaims c seen left) → c.stands ≡ at.Over
      → RenewsInto (λ (w : Sole K V S). Unit {0}) (HoldsOne same hash fixed) (Holds same hash fixed) id v kept_of (kept_of v)

  -- and nothing waits in it
  abbrev pub OneEmpties : Type 0
  OneEmpties =
      (fixed : Fixed) (id : ℕ) (v : Sole K V S) (c : ReclaimAll) (seen : Option (ℕ × Node K V)) (left : ℕ) (m : Mem (Node K V)) → fixed.batch_size < 2 ^ 64
      → acts_of v ≡ Some (Reclaims c seen left) → c.stands ≡ at.Over
      → WasKnown (λ (w : Sole K V S). Unit {0}) (HoldsOne same hash fixed) id v m → IsReclaimed same hash fixed m
