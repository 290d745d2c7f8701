-- Where nothing is done to what is known, open sections that keep what they hold shelter what they did.
use Rattle.std.proofs.Common.{◌≡◌, ℕ, false, List, refl, sym, subst}
use Rattle.run_schedules.specs.Given.SeizeWordsMem.{Mem}
use Rattle.run_schedules.specs.Given.SeizeWordsOp.{Out, Exchange, Exchanged}
use Rattle.std.specs.Prelude.{Ok}
use Rattle.run_schedules.specs.Given.SeizeWordsDeclared.at.At.TheVariants.{Used}
use Rattle.seize_acts.specs.Given.SeizeDeclared.advance.Advance.{Advance}
use Rattle.play_lists.specs.Given.TablesDeclared.node.Node.{Node}
use Rattle.play_lists.specs.Given.TablesDeclared.setting.Setting.{Setting}
use Rattle.run_logged.specs.Given.ResizeNewMap.{plan_at}
use Rattle.run_logged.specs.Given.ResizeDeclared.new_map.NewMap.{NewMap}
use Rattle.run_logged.specs.Given.ResizeDeclared.new_map.Opening.{Opening}
use Rattle.run_logged.specs.Given.ResizeDeclared.new_map.Opening.TheVariants as openings
use Rattle.play_lists.specs.Given.TellsSeen.{seen_of}
use Rattle.play_lists.specs.Given.TellerTells.{StepsObserved, observed_of}
use Rattle.play_lists.specs.Given.EffectsDeclared.changed.Changed.{Changed}
use Rattle.play_lists.specs.Given.EffectsDeclared.changed.Changed.TheVariants as changed
use Rattle.seize_acts.specs.Given.SeizeWorld.{World}
use Rattle.run_schedules.specs.Runs.Present.{Present}
use Rattle.run_schedules.specs.Schedules.Moment.{Moment, Sheltered}
use Rattle.play_lists.specs.Given.EffectsEffects.{known_after}
use Rattle.play_lists.specs.Given.EffectsKnown.{Known}
use Rattle.play_lists.specs.Given.EffectsDeclared.acting.Acting.{Acting}
use Rattle.play_lists.specs.Given.PromisesSheltered.{AreShelteredOn, IsShelteredOn}
use Rattle.play_lists.proofs.Given.PromisesLists.{all_of}
use Rattle.play_lists.specs.Played.Play.{has_root}
use Rattle.play_linear.specs.Protects.Shelters.{IsOpen, SectionsShelter}
use Rattle.play_linear.proofs.Protects.Sections.{Keeps}

module _ {K V : Type 0} (w v : World (Node K V)) (keeps : (t : ℕ) → Keeps t w v) (known : Known) where
  pub held_still : (there : Present) (xs : List Sheltered) → AreShelteredOn (IsOpen w) there w known xs → AreShelteredOn (IsOpen v) there v known xs
  held_still there xs all =
      all_of (IsShelteredOn (IsOpen w) there w known) (IsShelteredOn (IsOpen v) there v known) xs
      (λ x so. (so.0, so.1, so.2, (keeps so.1.slot).stays so.3, λ b of. (keeps so.1.slot).held b (so.4 b of))) all

  pub shelters_still : (m : Moment K V) → SectionsShelter m known w → SectionsShelter m known v
  shelters_still m so = record { guards = λ own g found. (keeps g.slot).stays (so.guards own g found); held = held_still m.there m.sheltered so.held }

-- Before a making has its root, nothing is known otherwise by its steps.
module _ {K V : Type 0} (c : NewMap) (m n : Mem (Node K V)) (told : Changed) (end : NewMap × Advance Setting) where
  abbrev LeavesKnown : Changed → Type 0
  LeavesKnown x = (who : Acting) (known : Known) → known_after who x known ≡ known

  exchange_leaves : (out : Out (Node K V)) → LeavesKnown (observed_of (Exchange (Used c.setting.root) 0 1) out (seen_of m (Exchange (Used c.setting.root) 0 1) out))
  exchange_leaves (Exchanged (Ok word)) who known = refl
  exchange_leaves _ who known = refl

  pub rootless_leaves : (stands : Opening) → has_root stands ≡ false → StepsObserved K V (NewMap × Advance Setting) m changed.Nothing (plan_at c stands) n told end → LeavesKnown told
  rootless_leaves openings.Takes none steps = subst LeavesKnown (sym steps.1.1) (exchange_leaves steps.0)
  rootless_leaves (openings.Refused fault) none steps = subst LeavesKnown (sym steps.2) (λ who known. refl)
  rootless_leaves openings.Shards none steps = absurd (cc none)
  rootless_leaves (openings.Tables making) none steps = absurd (cc none)
  rootless_leaves (openings.Unmakes fault) none steps = absurd (cc none)
  rootless_leaves (openings.Frees fault) none steps = absurd (cc none)
  rootless_leaves openings.Over none steps = absurd (cc none)
