-- What left its map while guards were there: sections that are open, by what has happened, hold it still.
use Rattle.std.specs.Prelude.{◌≡◌, ℕ, true}
use Rattle.run_logged.specs.Given.SeizeLaw.{is_open}
use Rattle.seize_acts.specs.Given.SeizeWorld.{World}
use Rattle.play_lists.specs.Given.TablesDeclared.node.Node.{Node}
use Rattle.run_schedules.specs.Schedules.Moment.{Moment}
use Rattle.play_lists.specs.Given.EffectsKnown.{Known}
use Rattle.play_lists.specs.Given.PromisesSheltered.{AreShelteredOn, GuardsAreOn}

module _ {K V : Type 0} where
  -- the section of a slot is open
  abbrev pub IsOpen : World (Node K V) → ℕ → Type 0
  IsOpen w t = is_open t w.log ≡ true

  -- The section of each guard of a moment is open, and holds what left its map while the guard was there.
  pub record SectionsShelter (m : Moment K V) (known : Known) (w : World (Node K V)) : Type 0 where
    pub guards : GuardsAreOn (IsOpen w) m.there
    pub held : AreShelteredOn (IsOpen w) m.there w known m.sheltered
