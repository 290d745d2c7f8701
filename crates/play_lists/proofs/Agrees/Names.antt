-- Each map that is there has its number as its name.
use Rattle.std.specs.Prelude.{suc, ◌==◌, not, find, Bool, true, false, Option, Some, None, cond, if◌then◌else◌}
use Rattle.std.specs.List.{All}
use Rattle.std.proofs.Common.{◌≡◌, ℕ, List, [], ◌∷◌, refl, ap, sym, ◌∙◌, arith}
use Rattle.std.proofs.lemmas.Bool.{eqb-true}
use Rattle.std.proofs.lemmas.List.Elements.{All-append, All-cons, All-filter, All-map}
use Rattle.many_acts.proofs.Given.FollowsCalling.{is_same_refl}
use Rattle.run_schedules.specs.Runs.Same.{is_same}
use Rattle.run_schedules.specs.Schedules.Effects.{maps_by, promoted, with_effect, with_effects}
use Rattle.run_schedules.specs.Schedules.Moment.{MapThere, Moment}
use Rattle.run_schedules.specs.declared.effect.Effect.{Effect}
use Rattle.run_schedules.specs.declared.effect.Effect.TheVariants.{Promoted}
use Rattle.run_schedules.specs.declared.effect.TableId.{TableId}
use Rattle.run_kept.specs.Given.EffectsEffects.{effects_of}
use Rattle.run_schedules.specs.Deeds.Deeds.{Deed, Entry, MapComes, MapFails, MapGoes, acted_on, after, at_work, begun, caller_of, come, maps_on, moment, named, without_map, worked}
use Rattle.play_lists.specs.Played.Play.{is_refusal}
use Rattle.play_lists.specs.Agrees.Fresh.{AreNamed, IsNamed}
use Rattle.play_lists.proofs.Agrees.Entries.{Grows}

promoted_named : (t : TableId) (f : MapThere) → IsNamed f → IsNamed (promoted t f)
promoted_named t f is = by (f.number == t.map)
  where
    by : (q : Bool) → IsNamed (if q then record f { first = t.turn } else f)
    by true = is
    by false = is

maps_named : (f : Effect) (maps : List MapThere) → All IsNamed maps → All IsNamed (maps_by f maps)
maps_named (Promoted t) maps all = All-map IsNamed (promoted t) maps (λ k d l. promoted_named t _ (all k d l))
maps_named _ maps all = all

-- where one is there no more
pub gone_named : (own : ℕ) (maps : List MapThere) → All IsNamed maps → All IsNamed (without_map own maps)
gone_named own maps all = All-filter (λ f. not (is_same f.name (named own))) IsNamed maps all

-- and then none has its number
pub none_gone : (own : ℕ) (maps : List MapThere) → All IsNamed maps → find (λ f. f.number == own) (without_map own maps) ≡ None
none_gone own [] all = refl
none_gone own (f ∷ maps) all = by (none_gone own maps (λ k d l. all (suc k) d (omega (arith, l)))) (is_same f.name (named own)) refl (f.number == own) refl
  where
    by : find (λ g. g.number == own) (without_map own maps) ≡ None → (q : Bool) → is_same f.name (named own) ≡ q → (p : Bool) → (f.number == own) ≡ p → find (λ g. g.number == own) (if not q then f ∷ without_map own maps else without_map own maps) ≡ None
    by rest true e p is = rest
    by rest false e false is = ap (λ (z : Bool). cond z (Some f) (find (λ g. g.number == own) (without_map own maps))) is ∙ rest
    by rest false e true is =
        let its : f.name ≡ named own = all 0 f (omega arith) ∙ ap named (eqb-true f.number own is) in
        absurd (let both : true ≡ false = sym (is_same_refl (named own)) ∙ sym (ap (λ (name : List ℕ). is_same name (named own)) its) ∙ e in cc both)

module _ {K V : Type 0} where
  -- so after effects,
  pub effects_named : (caller : Option (List ℕ)) (acted : Option ℕ) (effects : List Effect) (m : Moment K V) → AreNamed m → AreNamed (with_effects caller acted effects m)
  effects_named caller acted [] m all = all
  effects_named caller acted (f ∷ effects) m all = effects_named caller acted effects (with_effect caller acted f m) (maps_named f m.maps all)

  -- where a map comes,
  pub come_named : (f : MapThere) (m : Moment K V) → IsNamed f → AreNamed m → AreNamed (come f m)
  come_named f m is all = All-append IsNamed m.maps (f ∷ []) all (All-cons IsNamed f [] is (λ k d l. absurd (omega (arith, l))))

  begun_named : (d : Deed K V) (m : Moment K V) → AreNamed m → AreNamed (begun d m)
  begun_named (MapComes map root mode capacity) m all = come_named (record { name = named map; number = map; root = root; mode = mode; capacity = capacity; first = 0 }) m refl all
  begun_named _ m all = all

  left_named : (d : Deed K V) (maps : List MapThere) → All IsNamed maps → All IsNamed (maps_on d maps)
  left_named (MapFails map) maps all = gone_named map maps all
  left_named (MapGoes map) maps all = gone_named map maps all
  left_named _ maps all = all

  -- while an entry is at work, and after it.
  pub worked_named : (e : Entry K V) (m : Moment K V) → AreNamed m → AreNamed (worked e m)
  worked_named e m all = effects_named (caller_of e.deed) (acted_on e.deed (at_work e m)) e.effects (at_work e m) (begun_named e.deed m all)

  entry_named : (e : Entry K V) (m : Moment K V) → AreNamed m → AreNamed (after e m)
  entry_named e m all = left_named e.deed (worked e m).maps (worked_named e m all)

-- So it is wherever a list has led.
pub names_grow : (K V : Type 0) → Grows K V (λ log. AreNamed (moment log))
names_grow K V = record {
  quiet = λ log d o its all. entry_named (record { deed = d; outcome = o; effects = []; refused = false }) (moment log) all;
  works = λ log who known changed d o its all. entry_named (record { deed = d; outcome = o; effects = effects_of who known changed; refused = is_refusal changed }) (moment log) all;
}
