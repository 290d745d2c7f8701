-- A call that removes the pair of a key by straight code: what that comes to, and that it has been run then.
use Rattle.std.specs.Prelude.{None, Result}
use Rattle.std.proofs.Common.{◌≡◌, ℕ, Bool}
use Rattle.map_tables.specs.declared.setting.Setting.{Setting}
use Rattle.papaya_raw.specs.CallPoints.{untried}
use Rattle.papaya_raw.specs.declared.machines.answer.Called.TheVariants as called
use Rattle.papaya_raw.specs.declared.machines.call.Calling.TheVariants as at
use Rattle.papaya_raw.specs.declared.machines.call.KeyCall.{KeyCall}
use Rattle.papaya_raw.specs.declared.machines.progress.Answer.{Answer}
use Rattle.seize_words.specs.declared.fault.Fault.{Fault}
use Rattle.threads_steps.specs.Given.ActsActs.{Remove}
use Rattle.threads_steps.specs.Given.ViewsDeclared.view.View.{View}
use Rattle.map_straight.specs.Straight.Going.{CallReaches}
use Rattle.map_straight.specs.Straight.Removing.{removed_at, removing_at, seeking}
use Rattle.map_straight.specs.declared.removing.RemovalAt.{RemovalAt}
use Rattle.map_straight.specs.declared.removing.RemovalAt.TheVariants as removed
use Rattle.threads_errands.specs.Ahead.{CanGo, HasGone, IsSameAhead, shown_ahead}
use Rattle.threads_errands.specs.Takes.{HasTaken}
use Rattle.threads_errands.specs.declared.ahead.Ahead.{Ahead}
use Rattle.threads_steps.specs.Given.ErrandsCalling.{HasCalled, HasEnded}
use Rattle.threads_steps.specs.Given.ErrandsLooking.{Begins, StaysThere}
use Rattle.threads_steps.proofs.Forms.{call_leads_by, call_tells_by}
use Rattle.threads_errands.proofs.Puts.{has_called}
use Rattle.threads_errands.proofs.Standing.{IsAt, answered, led}

module _ {K V S : Type 0} (same : K → K → Bool) (hash : S → K → ℕ) where
  module _ (hasher : S) (setting : Setting) (hashed : ℕ) (key : K) where
    abbrev pub from_root : KeyCall K V K
    from_root = seeking setting hashed key untried at.Roots

    pub has_taken : (end : RemovalAt) (m n : Ahead K V S) → CallReaches same same (hash hasher) (HasGone same hash) shown_ahead from_root m n (removed_at setting hashed key end)
        → IsAt same hash hasher from_root m → HasTaken same hash hasher setting hashed key end m.seat.now.view n.seat.now.view × IsSameAhead m n
    has_taken (removed.Answered answer) m n r is = let a = answered same hash hasher from_root m n answer r is in ((a.ends, a.stays, a.calls), a.seat)
    has_taken (removed.Stands trial removal) m n r is =
        let a = led same hash hasher from_root (seeking setting hashed key trial (removing_at setting trial removal)) m n r is in ((a.at, a.stays, a.calls), a.seat)

  -- what it comes to by a form of the key, it comes to by the key
  module _ {Q : Type 0} (asks : Q → K → Bool) (stands_for : Q → K) (stands : (asked : Q) (key : K) → asks asked key ≡ same (stands_for asked) key) (hasher : S) (setting : Setting) (hashed : ℕ) (asked : Q) where
    abbrev from_form : KeyCall K V Q
    from_form = seeking setting hashed asked untried at.Roots

    pub taken_by : (end : RemovalAt) (m n : Ahead K V S) → CallReaches asks same (hash hasher) (HasGone same hash) shown_ahead from_form m n (removed_at setting hashed asked end)
        → CallReaches same same (hash hasher) (HasGone same hash) shown_ahead (from_root hasher setting hashed (stands_for asked)) m n (removed_at setting hashed (stands_for asked) end)
    taken_by (removed.Answered answer) m n r =
        call_tells_by (CanGo same hash) (HasGone same hash) shown_ahead same asks stands_for stands (hash hasher) from_form m n (called.Done answer) r
    taken_by (removed.Stands trial removal) m n r =
        call_leads_by (CanGo same hash) (HasGone same hash) shown_ahead same asks stands_for stands (hash hasher) from_form (seeking setting hashed asked trial (removing_at setting trial removal)) m n r

  -- a call that has begun so, and has ended since, has been run: it had no pair to hand back
  pub has_removed : (key : K) (answer : Result Answer Fault) (v w u : View K V S) → Begins same hash (Remove key) v w → HasEnded answer w u → StaysThere w u
      → HasCalled same hash (Remove key) answer None v u
  has_removed key answer v w u b e stays = has_called same hash (Remove key) answer None v w u b e stays (λ pair its. absurd (cc its))
