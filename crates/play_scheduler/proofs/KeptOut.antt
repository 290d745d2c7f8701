-- An event that is out of turn changes nothing, and every event is where it is kept out.
use Rattle.std.specs.Prelude.{◌≡◌, ◌+◌, ◌&&◌, ℕ, Bool, true, false, List, Option, Some, None, MatchOption, MatchBool, if◌then◌else◌}
use Rattle.std.proofs.Common.{refl, sym, subst, ◌∙◌}
use Rattle.seize_words.specs.declared.fault.Fault.{Fault}
use Rattle.seize_words.specs.declared.fault.Fault.TheVariants.{Busy}
use Rattle.papaya_raw.specs.Given.TablesDeclared.resize_mode.ResizeMode.{ResizeMode}
use Rattle.run_schedules.specs.Runs.Runs.{map_fault}
use Rattle.run_schedules.specs.Runs.Same.{is_same}
use Rattle.run_schedules.specs.declared.event.Event.{Event}
use Rattle.run_schedules.specs.declared.event.Event.TheVariants.{Collector, Hash, Choose, Register, Unregister, Enter, Own, Refresh, Flush, DropGuard, Forget, ReclaimAll, Close, MakeMap, EndMap, ShowShape, Begin, Step, Go, Replied, OneCall, Next, Stop}
use Rattle.run_schedules.specs.declared.outcome.Outcome.{Outcome}
use Rattle.run_schedules.specs.declared.outcome.Outcome.TheVariants.{Refused}
use Rattle.run_schedules.specs.Schedules.After.{after, with_outcome, is_alone_on, mapped_on, moment}
use Rattle.run_schedules.specs.Schedules.Entry.{Entry, nameless}
use Rattle.run_schedules.specs.Schedules.InTurn.{HasRightOutcome, HasOutcome, IsKeptOut}
use Rattle.run_schedules.specs.Schedules.Moment.{UnderWay as CallThere, Moment}
use Rattle.run_schedules.specs.Schedules.Terms.{Terms}
use Rattle.run_shows.specs.Given.CallersTogether.{UnderWay, OnKey, ForRoom, Counting, OverAll}
use Rattle.run_logged.specs.Given.EffectsKnown.{Known, known}
use Rattle.run_shows.specs.Follows.Calling.{come_to}
use Rattle.run_executor.specs.Given.HandsCalling.{AsksJust}
use Rattle.run_executor.proofs.Given.MomentsCalls.{calls_come_to_whole}
use Rattle.run_logged.proofs.Given.KeptStays.{calls_come_to_kept}
use Rattle.play_scheduler.specs.Played.{IsPlayed, Plays, RefinesFor}
use Rattle.run_executor.specs.Named.Seen.{seen}
use Rattle.play_scheduler.specs.declared.scheduler.Scheduler.{Scheduler}
use Rattle.run_logged.proofs.Log.Counted.{counted_calls}
use Rattle.run_logged.proofs.Rows.Elsewhere.{elsewhere, shown_elsewhere, kept_elsewhere, counted_elsewhere}
use Rattle.run_logged.proofs.Rows.Lists.{unseen}
use Rattle.play_scheduler.proofs.Quiet.{stands_on}
use Rattle.play_scheduler.proofs.Rights.{quiet}

module _ {K V S : Type 0} (same : K → K → Bool) (hash : K → ℕ) (terms : Terms) (m : Moment K V) (p : Scheduler K V S) (stands : RefinesFor same hash terms m p) where
  -- of a call nothing has changed that is out of turn
  asks_nothing : (known : Known) (u : UnderWay K V K) → AsksJust {K = K} {V = V} known u (Refused Busy)
  asks_nothing known (OnKey u) = tt
  asks_nothing known (ForRoom r) = tt
  asks_nothing known (Counting sum) = tt
  asks_nothing known (OverAll o) = tt

  same_seen : (own : List ℕ) (c : CallThere K V) → seen (if is_same c.caller own then with_outcome (Refused Busy) (record c { steps = c.steps + 0 }) else c) ≡ seen c
  same_seen own c = by (is_same c.caller own)
    where
      by : (b : Bool) → seen (if b then with_outcome (Refused Busy) (record c { steps = c.steps + 0 }) else c) ≡ seen c
      by true = refl
      by false = refl

  pub stands_busy : (own : List ℕ) → RefinesFor same hash terms (come_to own (Refused Busy) 0 m) p
  stands_busy own = record {
    name = stands.name;
    scene = stands.scene;
    shown = record {
      is_at = stands.shown.is_at;
      shows = calls_come_to_whole K V same stands.name m (known p.logged.notes) stands.scene stands.shown.shows own (Refused Busy) 0 (λ e. absurd (cc e)) (λ n i u here named. asks_nothing (known p.logged.notes) u);
      kept = calls_come_to_kept K V same stands.name m (known p.logged.notes) stands.scene stands.shown.shows stands.shown.kept own (Refused Busy) 0 (λ e. absurd (cc e));
      counted = counted_calls p.logged m (come_to own (Refused Busy) 0 m) stands.scene stands.shown.counted refl refl refl;
    };
    given = stands.given;
    there = stands.there;
    mapped = stands.mapped;
    closed = stands.closed;
    calls = let c = stands.calls in record { listed = unseen seen (λ x. if is_same x.caller own then with_outcome (Refused Busy) (record x { steps = x.steps + 0 }) else x) (same_seen own) m.calls ∙ c.listed; once = c.once; each = c.each; only = c.only };
    maps = let c = stands.maps in record { listed = c.listed; stand = c.stand };
    slots = stands.slots;
    rests = stands.rests;
    names = stands.names;
  }

  abbrev mapped_m : Moment K V
  mapped_m = elsewhere m.events true m.is_closed m.is_alone m.there m.slots m.sheltered m.remains m

  -- where an event was to make a map, this is noted
  stands_mapped : (is_mapped : Bool) → RefinesFor same hash terms (elsewhere m.events is_mapped m.is_closed m.is_alone m.there m.slots m.sheltered m.remains m) (record p { is_mapped = is_mapped })
  stands_mapped is_mapped = record {
    name = stands.name;
    scene = stands.scene;
    shown = record {
      is_at = stands.shown.is_at;
      shows = shown_elsewhere m (known p.logged.notes) m.events is_mapped m.is_closed m.is_alone m.there m.slots m.sheltered m.remains same stands.name stands.scene stands.shown.shows;
      kept = kept_elsewhere m (known p.logged.notes) m.events is_mapped m.is_closed m.is_alone m.there m.slots m.sheltered m.remains stands.name stands.scene stands.shown.kept;
      counted = counted_elsewhere m (known p.logged.notes) m.events is_mapped m.is_closed m.is_alone m.there m.slots m.sheltered m.remains p.logged stands.scene refl stands.shown.counted;
    };
    given = stands.given;
    there = stands.there;
    mapped = refl;
    closed = stands.closed;
    calls = let c = stands.calls in record { listed = c.listed; once = c.once; each = c.each; only = c.only };
    maps = let c = stands.maps in record { listed = c.listed; stand = c.stand };
    slots = stands.slots;
    rests = stands.rests;
    names = stands.names;
  }

  abbrev alone : Entry K V → Bool
  alone e = m.is_alone && is_alone_on e m

  on : (e : Entry K V) → RefinesFor same hash terms (elsewhere (m.events + 1) m.is_mapped m.is_closed (alone e) m.there m.slots m.sheltered m.remains m) p
  on e = stands_on same hash terms m p stands (m.events + 1) (alone e) m.slots m.sheltered

  on_call : (e : Entry K V) (own : List ℕ) → RefinesFor same hash terms (elsewhere (m.events + 1) m.is_mapped m.is_closed (alone e) m.there m.slots m.sheltered m.remains (come_to own (Refused Busy) 0 m)) p
  on_call e own = stands_on same hash terms (come_to own (Refused Busy) 0 m) p (stands_busy own) (m.events + 1) (alone e) m.slots m.sheltered

  abbrev p_then : Event K V → Scheduler K V S
  p_then event = record p { is_mapped = mapped_on event p.is_mapped }

  abbrev Then : Event K V → Outcome V → Type 0
  Then event outcome = RefinesFor same hash terms (after (quiet event outcome) m) (p_then event)

  -- whichever event it is that is busy
  pub busy_stands : (event : Event K V) → Then event (Refused Busy)
  busy_stands (Collector setup) = on (quiet (Collector setup) (Refused Busy))
  busy_stands (Hash by) = on (quiet (Hash by) (Refused Busy))
  busy_stands (Choose choice) = on (quiet (Choose choice) (Refused Busy))
  busy_stands (Register r) = on (quiet (Register r) (Refused Busy))
  busy_stands (Unregister r) = on (quiet (Unregister r) (Refused Busy))
  busy_stands (Enter g r) = on (quiet (Enter g r) (Refused Busy))
  busy_stands (Own g) = on (quiet (Own g) (Refused Busy))
  busy_stands (Refresh g) = on (quiet (Refresh g) (Refused Busy))
  busy_stands (Flush g) = on (quiet (Flush g) (Refused Busy))
  busy_stands (DropGuard g) = on (quiet (DropGuard g) (Refused Busy))
  busy_stands (Forget g) = on (quiet (Forget g) (Refused Busy))
  busy_stands ReclaimAll = on (quiet ReclaimAll (Refused Busy))
  busy_stands Close = on (quiet Close (Refused Busy))
  busy_stands (MakeMap n mode c) =
      stands_on same hash terms mapped_m (record p { is_mapped = true }) (stands_mapped true) (m.events + 1) (alone (quiet (MakeMap n mode c) (Refused Busy))) m.slots m.sheltered
  busy_stands (EndMap n) = on (quiet (EndMap n) (Refused Busy))
  busy_stands (ShowShape n) = on (quiet (ShowShape n) (Refused Busy))
  busy_stands (Begin c g n call) = on (quiet (Begin c g n call) (Refused Busy))
  busy_stands (Step c refuse) = on_call (quiet (Step c refuse) (Refused Busy)) c
  busy_stands (Go c refuse) = on_call (quiet (Go c refuse) (Refused Busy)) c
  busy_stands (Replied c reply) = on (quiet (Replied c reply) (Refused Busy))
  busy_stands (OneCall g n call) = on_call (quiet (OneCall g n call) (Refused Busy)) nameless
  busy_stands (Next c) = on_call (quiet (Next c) (Refused Busy)) c
  busy_stands (Stop c) = on (quiet (Stop c) (Refused Busy))

  -- what was to make a map, and was refused for another fault
  pub faulty_stands : (n : List ℕ) (mode : ResizeMode) (c : ℕ) (fault : Fault) → Then (MakeMap n mode c) (Refused fault)
  faulty_stands n mode c fault =
      stands_on same hash terms mapped_m (record p { is_mapped = true }) (stands_mapped true) (m.events + 1) (alone (quiet (MakeMap n mode c) (Refused fault))) m.slots m.sheltered

-- An event that is kept out comes to what it must.
module _ {K V S : Type 0} (same : K → K → Bool) (hash : K → ℕ) (terms : Terms) (log : List (Entry K V)) (p : Scheduler K V S) (played : IsPlayed same hash terms log p) (event : Event K V) (out : p.is_closed ≡ true) where
  abbrev m : Moment K V
  m = moment log

  right : (outcome : Outcome V) → IsKeptOut event outcome → HasRightOutcome terms log (quiet event outcome)
  right outcome kept =
      subst (λ (b : Bool). MatchBool b (IsKeptOut event outcome) (HasOutcome terms log m (quiet event outcome) event outcome)) (sym (played.closed ∙ out)) kept

  pub kept_out : (outcome : Outcome V) → IsKeptOut event outcome → Plays same hash terms log (quiet event outcome) (record p { is_mapped = mapped_on event p.is_mapped })
  kept_out outcome kept = record { right = right outcome kept; played = by event outcome kept }
    where
      refused : (e : Event K V) (o : Outcome V) → o ≡ Refused Busy → RefinesFor same hash terms (after (quiet e o) m) (record p { is_mapped = mapped_on e p.is_mapped })
      refused e o is = subst (λ (x : Outcome V). RefinesFor same hash terms (after (quiet e x) m) (record p { is_mapped = mapped_on e p.is_mapped })) (sym is) (busy_stands same hash terms m p played e)

      making : (n : List ℕ) (mode : ResizeMode) (c : ℕ) (o : Outcome V) (found : Option Fault) → MatchOption found (o ≡ Refused Busy) (λ fault. o ≡ Refused fault)
          → RefinesFor same hash terms (after (quiet (MakeMap n mode c) o) m) (record p { is_mapped = true })
      making n mode c o None is = refused (MakeMap n mode c) o is
      making n mode c o (Some fault) is =
          subst (λ (x : Outcome V). RefinesFor same hash terms (after (quiet (MakeMap n mode c) x) m) (record p { is_mapped = true })) (sym is) (faulty_stands same hash terms m p played n mode c fault)

      by : (e : Event K V) (o : Outcome V) → IsKeptOut e o → RefinesFor same hash terms (after (quiet e o) m) (record p { is_mapped = mapped_on e p.is_mapped })
      by (MakeMap n mode c) o is = making n mode c o (map_fault mode c) is
      by (Collector setup) o is = refused (Collector setup) o is
      by (Hash h) o is = refused (Hash h) o is
      by (Choose choice) o is = refused (Choose choice) o is
      by (Register r) o is = refused (Register r) o is
      by (Unregister r) o is = refused (Unregister r) o is
      by (Enter g r) o is = refused (Enter g r) o is
      by (Own g) o is = refused (Own g) o is
      by (Refresh g) o is = refused (Refresh g) o is
      by (Flush g) o is = refused (Flush g) o is
      by (DropGuard g) o is = refused (DropGuard g) o is
      by (Forget g) o is = refused (Forget g) o is
      by ReclaimAll o is = refused ReclaimAll o is
      by Close o is = refused Close o is
      by (EndMap n) o is = refused (EndMap n) o is
      by (ShowShape n) o is = refused (ShowShape n) o is
      by (Begin c g n call) o is = refused (Begin c g n call) o is
      by (Step c refuse) o is = refused (Step c refuse) o is
      by (Go c refuse) o is = refused (Go c refuse) o is
      by (Replied c reply) o is = refused (Replied c reply) o is
      by (OneCall g n call) o is = refused (OneCall g n call) o is
      by (Next c) o is = refused (Next c) o is
      by (Stop c) o is = refused (Stop c) o is
