-- The promise `little` of an event: what waits where nobody is there, while no call is under way, once all was reclaimed, and once the collector has ended.
use Rattle.std.specs.Prelude.{◌≡◌, ◌<◌, ◌^◌, true, List, [], ◌∷◌, flat_map}
use Rattle.run_executor.specs.Given.SeizeWorld.{World}
use Rattle.run_blocks.specs.Given.TablesDeclared.node.Node.{Node}
use Rattle.run_executor.specs.Given.RunsDeclared.event.Event.{Event}
use Rattle.run_executor.specs.Given.RunsDeclared.event.Event.TheVariants.{ReclaimAll, Close}
use Rattle.run_executor.specs.Given.RunsDeclared.outcome.Outcome.{Outcome}
use Rattle.run_executor.specs.Given.RunsDeclared.outcome.Outcome.TheVariants.{Done}
use Rattle.run_executor.specs.Given.SchedulesAfter.{after, moment}
use Rattle.run_executor.specs.Given.SchedulesEntry.{Entry}
use Rattle.run_executor.specs.Given.SchedulesModel.{thing_back, all_left}
use Rattle.run_executor.specs.Given.SchedulesMoment.{Moment}
use Rattle.run_executor.specs.Given.SchedulesReclaims.{is_quiescent, ComesLast, LeavesLittle}
use Rattle.run_executor.specs.Given.SchedulesTerms.{Terms}
use Rattle.run_executor.specs.Given.CallersTogether.{CameAbout}
use Rattle.run_executor.specs.Given.EffectsKnown.{Known}
use Rattle.run_finds.specs.Bounded.{RefinesRetired, NobodyIsThere}
use Rattle.run_finds.specs.Orderly.{NothingIsRetired}
use Rattle.run_finds.specs.Within.{AllIsInOrder, GoesInOrder}

module _ {K V : Type 0} where
  -- P, of an event that reclaims all
  abbrev pub WhereAll : Event K V → Outcome V → Type 0 → Type 0
  WhereAll ReclaimAll Done P = P
  WhereAll Close Done P = P
  WhereAll _ _ P = Unit {0}

  -- no call is under way, and nothing is retired, or left over
  pub record AllIsBack (m : Moment K V) : Type 0 where
    pub calls : m.calls ≡ []
    pub nothing : NothingIsRetired m

  -- Where all was reclaimed all is back, and what ended maps left over came last.
  abbrev pub ReclaimsAll : List (Entry K V) → Entry K V → Type 0
  ReclaimsAll log e = WhereAll e.event e.outcome (AllIsBack (after e (moment log)) × ComesLast (all_left (moment log)) (flat_map thing_back e.effects))

  -- once the collector has ended all is back, and no map is there
  abbrev pub OverIsBack : Moment K V → Type 0
  OverIsBack m = m.is_closed ≡ true → AllIsBack m × (m.maps ≡ [])

  -- The bound is of moments at which nobody is there: then nobody is in the world, and what is retired is so in its log.
  pub record RefinesQuiescence (terms : Terms) (m : Moment K V) (known : Known) (w : World (Node K V)) : Type 0 where
    pub came : CameAbout terms.batch_size w
    pub nobody : is_quiescent m ≡ true → NobodyIsThere w × RefinesRetired m known w

-- The promises: an event leaves little where all is in order after it, by what it reclaims and shows;
abbrev pub EventsLeaveLittle : Type 0 → Type 0 → Type 0
EventsLeaveLittle K V =
    (terms : Terms) (log : List (Entry K V)) (e : Entry K V) (known : Known) (w : World (Node K V)) → terms.batch_size < 2 ^ 64 → AllIsInOrder (after e (moment log))
    → ReclaimsAll log e → OverIsBack (after e (moment log)) → RefinesQuiescence terms (after e (moment log)) known w → LeavesLittle terms log e

-- and after the collector has ended nothing comes any more.
abbrev pub OverStaysBack : Type 0 → Type 0 → Type 0
OverStaysBack K V =
    (terms : Terms) (log : List (Entry K V)) (e : Entry K V) → GoesInOrder terms log e → ReclaimsAll log e → OverIsBack (moment log) → OverIsBack (after e (moment log))
