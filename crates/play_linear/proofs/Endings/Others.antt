-- What rows, makings and other ends do leaves all of a map that ends as it was.
use Rattle.std.specs.Prelude.{◌≡◌, ◌<◌, ◌&&◌, nat_lt, ℕ, Bool, true, false, List, [], ◌∷◌, Option, None, if◌then◌else◌}
use Rattle.std.specs.List.{list_all}
use Rattle.std.proofs.Common.{refl, sym, ◌∙◌}
use Rattle.std.proofs.lemmas.Bool.{and_parts}
use Rattle.run_schedules.specs.Given.SeizeWordsDeclared.at.At.TheVariants.{Entry, Root, Slot, Used, Word}
use Rattle.seize_acts.specs.Given.SeizeWorld.{times}
use Rattle.play_lists.specs.Given.FinishesEndings.{Finishing}
use Rattle.run_schedules.specs.declared.effect.Effect.{Effect}
use Rattle.run_schedules.specs.declared.effect.Effect.TheVariants as effect
use Rattle.run_schedules.specs.declared.effect.Growth.TheVariants.{ABucket}
use Rattle.run_schedules.specs.declared.effect.TableId.{TableId}
use Rattle.run_schedules.specs.Schedules.Effects.{AtEachEffect, with_effect}
use Rattle.run_schedules.specs.Schedules.Handing.{is_first_making}
use Rattle.run_schedules.specs.Schedules.Moment.{Moment}
use Rattle.play_lists.specs.Given.EffectsEffects.{effects_of, known_after, names_same, pair_taken, table_taken, taken_by}
use Rattle.play_lists.specs.Given.EffectsKnown.{Known}
use Rattle.play_lists.specs.Given.EffectsDeclared.acting.Acting.{Acting}
use Rattle.play_lists.specs.Given.EffectsDeclared.acting.Acting.TheVariants as acts
use Rattle.play_lists.specs.Given.EffectsDeclared.role.Role.{Role}
use Rattle.play_lists.specs.Given.EffectsDeclared.role.Role.TheVariants as role
use Rattle.play_lists.specs.Given.ScenesScene.{Scene}
use Rattle.play_lists.specs.Given.EffectsDeclared.changed.Changed.{Changed}
use Rattle.play_lists.specs.Given.EffectsDeclared.changed.Changed.TheVariants as changed
use Rattle.run_logged.specs.Given.MomentsWhole.{RefinesWhole}
use Rattle.play_lists.proofs.Given.OthersRowPlans.{TellsRow}
use Rattle.play_lists.proofs.Agrees.Elsewhere.{AllLinkElsewhere}
use Rattle.play_lists.proofs.Agrees.Fresh.{AnyTable}
use Rattle.play_lists.specs.MapsEnd.Ends.{IsOther, IsOut, Spares}
use Rattle.play_lists.specs.MapsEnd.Going.{ContinuesToEnd}
use Rattle.play_lists.proofs.MapsEnd.Going.{NotedAlike, pair_out, table_other, taken_apart}

module _ {K V : Type 0} (map : ℕ) (caller : Option (List ℕ)) (acted : Option ℕ) where
  -- a making makes tables of its map, and links them there
  one_first : (f : Effect) (m : Moment K V) → is_first_making f ≡ true → AllLinkElsewhere map AnyTable (f ∷ []) → Spares map acted m f
  one_first (effect.Asked growth) m first links = tt
  one_first (effect.TableMade t) m first links = tt
  one_first (effect.Linked t shape) m first links = links.0
  one_first _ m first links = absurd (cc first)

  pub firsts_spare : (effects : List Effect) (m : Moment K V) → list_all is_first_making effects ≡ true → AllLinkElsewhere map AnyTable effects → AtEachEffect (Spares map acted) caller acted effects m
  firsts_spare [] m firsts links = tt
  firsts_spare (f ∷ effects) m firsts links =
      let two = and_parts (is_first_making f) (list_all is_first_making effects) firsts in
      (one_first f m two.0 (links.0, tt), firsts_spare effects (with_effect caller acted f m) two.1 links.1)

module _ {K V : Type 0} (same : K → K → Bool) (name : ℕ → List ℕ) (map : ℕ) (f : Finishing K V) (known : Known) (m : Moment K V) (s : Scene K V) (whole : RefinesWhole same name m known s) (so : ContinuesToEnd map f known m) where
  -- somebody takes a block away
  module _ (its : Acting) (caller : Option (List ℕ)) (acted : Option ℕ) (b : ℕ) (still : NotedAlike so.rest known (known_after its (changed.Took b) known)) where
    out_spares : (who : Acting) (k : ℕ) → IsOut map m k → Spares map acted m (pair_taken who k)
    out_spares (acts.Ending of) k out = out
    out_spares _ k out = out

    other_spares : (who : Acting) (t : TableId) → IsOther map m t → Spares map acted m (table_taken who t)
    other_spares (acts.Ending of) t other = other
    other_spares _ t other = other

    apart : (r : Role) → known.roles b ≡ r → (r ≡ role.Free → ⊥) → 0 < times b so.rest → ⊥
    apart r is noted some = taken_apart map f known m so its b still (λ free. noted (sym is ∙ free)) some

    pub taken_spares : AtEachEffect (Spares map acted) caller acted (taken_by its (known.roles b)) m
    taken_spares = by (known.roles b) refl
      where
        by : (r : Role) → known.roles b ≡ r → AtEachEffect (Spares map acted) caller acted (taken_by its r) m
        by role.Free is = tt
        by (role.OwnPair i) is = (tt, tt)
        by (role.OwnTable turn shape) is = (tt, tt)
        by (role.Counter of) is = tt
        by (role.Pair k) is =
            (out_spares its k (pair_out map f known m so whole.all.shown.blocks.once whole.blocks.tables_once whole.outside b (apart (role.Pair k) is (λ e. cc e)) k is), tt)
        by (role.Table t len) is =
            (other_spares its t (table_other map f known m so whole.all.shown.blocks.once whole.blocks.tables_once whole.outside b (apart (role.Table t len) is (λ e. cc e)) t len is), tt)

  -- a row takes its step
  nothing_either : (q : Bool) → AtEachEffect (Spares map None) None None (if q then [] else []) m
  nothing_either true = tt
  nothing_either false = tt

  roomed : (q : Bool) → AtEachEffect (Spares map None) None None (if q then [] else effect.Asked ABucket ∷ []) m
  roomed true = tt
  roomed false = (tt, tt)

  pub row_spares : (told : Changed) → TellsRow told → NotedAlike so.rest known (known_after acts.Row told known) → AtEachEffect (Spares map None) None None (effects_of acts.Row known told) m
  row_spares changed.Nothing is still = tt
  row_spares (changed.Wrote (Slot t field) before now) is still = tt
  row_spares (changed.Wrote (Entry x field) before now) is still = nothing_either (names_same before now)
  row_spares (changed.Wrote (Root r) before now) is still = absurd is
  row_spares (changed.Wrote (Used r) before now) is still = absurd is
  row_spares (changed.Wrote (Word x field) before now) is still = absurd is
  row_spares (changed.Made kind x) is still = absurd is
  row_spares (changed.Unmade kind) is still = absurd is
  row_spares (changed.Took x) is still = taken_spares acts.Row None None x still
  row_spares (changed.Roomed bucket had) is still = roomed (had && nat_lt bucket known.buckets)
