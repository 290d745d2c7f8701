-- Effects that hand over in order: what is owed, and what they take out, is what they hand over, and behind that what is owed then.
use Rattle.std.specs.Prelude.{◌≡◌, ℕ, Bool, true, false, List, [], ◌∷◌, ◌++◌, flat_map, map, find, Option, Some, None, if◌then◌else◌}
use Rattle.std.proofs.Common.{refl, ap, sym, subst, ◌∙◌}
use Rattle.std.proofs.lemmas.List.{append_assoc, append-nil}
use Rattle.std.proofs.lemmas.List.Concat.{flat_map-cons}
use Rattle.run_schedules.specs.Runs.Same.{is_same}
use Rattle.run_schedules.specs.declared.effect.Effect.{Effect}
use Rattle.run_schedules.specs.declared.effect.Effect.TheVariants as effect
use Rattle.run_schedules.specs.declared.effect.Thing.{Thing}
use Rattle.run_schedules.specs.declared.effect.Thing.TheVariants.{APair}
use Rattle.run_schedules.specs.Schedules.Effects.{call_by, out_by, with_effect, with_effects}
use Rattle.run_schedules.specs.Schedules.Entry.{IfCall}
use Rattle.run_schedules.specs.Schedules.Lists.{without_one}
use Rattle.run_schedules.specs.Schedules.Moment.{UnderWay as CallThere, Moment}
use Rattle.run_schedules.specs.Schedules.Things.{same_thing}
use Rattle.run_schedules.specs.Schedules.Views.{call_of}
use Rattle.play_lists.proofs.Given.FollowsCalling.{apart_back, is_same_is}
use Rattle.play_lists.proofs.Given.FollowsCalls.{changed, changed_same, of_same}
use Rattle.play_stepping.proofs.Given.HandsCalling.{caller_is}
use Rattle.play_stepping.proofs.Given.ChangesBegun.{effects_begun}
use Rattle.play_stepping.proofs.Given.ChangesChanges.{acted_on}
use Rattle.play_stepping.proofs.Given.RowsLists.{both_some, found_alike, unseen}
use Rattle.play_lists.proofs.Given.SettlesGains.{none_changed, others_stay}
use Rattle.play_lists.proofs.Given.SettlesOwing.{leaves, thing_itself}
use Rattle.play_events.specs.Folded.Folded.{EffectsFold, HandInOrder, IsFirstObligation, handed_in, if_its, out_in}
use Rattle.play_stepping.proofs.Given.General.{same_some as one_of}

-- where first ones come to this, and later ones to that, both do
pub joined : (a b c h d g e : List Thing) → a ++ b ≡ h ++ d → d ++ c ≡ g ++ e → a ++ (b ++ c) ≡ (h ++ g) ++ e
joined a b c h d g e first later =
    sym (append_assoc a b c) ∙ ap (λ (l : List Thing). l ++ c) first ∙ append_assoc h d c ∙ ap (λ (l : List Thing). h ++ l) later ∙ sym (append_assoc h g e)

-- without the first one the others are left
without_first : (x : Thing) (owes rest : List Thing) → owes ≡ x ∷ rest → without_one same_thing x owes ≡ rest
without_first x owes rest is = ap (without_one same_thing x) is ∙ ap (λ (q : Bool). if q then rest else x ∷ without_one same_thing x rest) (thing_itself x)

module _ {K V : Type 0} where
  -- one effect
  one_goes : (m : Moment K V) (f : Effect) (c : CallThere K V) → IsFirstObligation f c → c.owes ++ out_by m f ≡ handed_in f ++ (call_by m f c).owes
  one_goes m (effect.Deferred n t) c (rest, is) = append-nil c.owes ∙ is ∙ ap (λ (l : List Thing). APair n ∷ l) (sym (without_first (APair n) c.owes rest is))
  one_goes m (effect.Retired x) c (rest, is) = append-nil c.owes ∙ is ∙ ap (λ (l : List Thing). x ∷ l) (sym (without_first x c.owes rest is))
  one_goes m (effect.Promoted t) c first = refl
  one_goes m (effect.Replaced n) c first = refl
  one_goes m (effect.Removed n) c first = refl
  one_goes m f c first = append-nil c.owes ∙ sym (leaves m f c refl)

  begun_on : (own : List ℕ) (f : Effect) (m : Moment K V) (c : CallThere K V) → call_of own m ≡ Some c → (call_by m f c).begun ≡ c.begun
  begun_on own f m c is =
      let it = effects_begun own 0 own (f ∷ []) m c is in
      ap (λ (x : CallThere K V). x.begun) (one_of (call_by m f c) it.0 (sym (acted_on own 0 f m c is) ∙ it.1)) ∙ it.2

  -- and all of them
  effects_go : (own : List ℕ) (acted : Option ℕ) (effects : List Effect) (m : Moment K V) (c : CallThere K V) → call_of own m ≡ Some c → HandInOrder (Some own) acted effects m
      → (d : CallThere K V) × (call_of own (with_effects (Some own) acted effects m) ≡ Some d) × (d.begun ≡ c.begun)
      × (c.owes ++ out_in (Some own) acted effects m ≡ flat_map handed_in effects ++ d.owes)
  effects_go own acted [] m c is all = (c, is, refl, append-nil c.owes)
  effects_go own acted (f ∷ fs) m c is all =
      let d = call_by m f c in
      let rest = effects_go own acted fs (with_effect (Some own) acted f m) d (acted_on own 0 f m c is) all.1 in (
        rest.0,
        rest.1,
        rest.2 ∙ begun_on own f m c is,
        joined c.owes (out_by m f) (out_in (Some own) acted fs (with_effect (Some own) acted f m)) (handed_in f) d.owes (flat_map handed_in fs) rest.0.owes
            (one_goes m f c (subst (IfCall (IsFirstObligation f)) is all.0)) rest.3
            ∙ ap (λ (l : List Thing). l ++ rest.0.owes) (sym (flat_map-cons handed_in f fs)),
      )

  -- calls of other names stay,
  others_still : (caller : List ℕ) (acted : Option ℕ) (own : List ℕ) (effects : List Effect) (m : Moment K V) (c : CallThere K V) → is_same c.caller caller ≡ false → call_of own m ≡ Some c
      → call_of own (with_effects (Some caller) acted effects m) ≡ Some c
  others_still caller acted own [] m c apart is = is
  others_still caller acted own (f ∷ fs) m c apart is =
      others_still caller acted own fs (with_effect (Some caller) acted f m) c apart (others_stay caller 0 own (f ∷ []) m c apart is)

  -- and none comes
  abbrev name_of : CallThere K V → List ℕ
  name_of c = c.caller

  names_stay : (caller : List ℕ) (acted : Option ℕ) (effects : List Effect) (m : Moment K V) → map name_of (with_effects (Some caller) acted effects m).calls ≡ map name_of m.calls
  names_stay caller acted [] m = refl
  names_stay caller acted (f ∷ fs) m =
      names_stay caller acted fs (with_effect (Some caller) acted f m)
      ∙ unseen name_of (changed (call_by m f) (changed_same m f) caller) (λ c. (of_same (call_by m f) (changed_same m f) caller c).0) m.calls

  was_there : (caller : List ℕ) (acted : Option ℕ) (own : List ℕ) (effects : List Effect) (m : Moment K V) (c : CallThere K V)
      → call_of own (with_effects (Some caller) acted effects m) ≡ Some c → (d : CallThere K V) × (call_of own m ≡ Some d)
  was_there caller acted own effects m c is =
      let w = with_effects (Some caller) acted effects m in
      let d = both_some name_of name_of (call_of own m) (call_of own w) (found_alike name_of name_of m.calls w.calls (sym (names_stay caller acted effects m)) (λ z. is_same z own)) c is in
      (d.0, d.1)

  -- so whoever's effects they are: the call that is there after them was there before, and what it owes went so
  abbrev Went : Option (List ℕ) → Option ℕ → List Effect → Moment K V → List ℕ → CallThere K V → Type 0
  Went who acted effects m own c =
      (d : CallThere K V) × (call_of own m ≡ Some d) × (c.begun ≡ d.begun)
      × (d.owes ++ if_its own who (out_in who acted effects m) ≡ if_its own who (flat_map handed_in effects) ++ c.owes)

  pub all_go : (who : Option (List ℕ)) (acted : Option ℕ) (effects : List Effect) (m : Moment K V) → HandInOrder who acted effects m → (own : List ℕ) (c : CallThere K V)
      → call_of own (with_effects who acted effects m) ≡ Some c → Went who acted effects m own c
  all_go None acted effects m all own c is =
      (c, subst (λ (cs : List (CallThere K V)). find (λ x. is_same x.caller own) cs ≡ Some c) (none_changed acted effects m) is, refl, append-nil c.owes)
  all_go (Some caller) acted effects m all own c is = by (is_same caller own) refl
    where
      its : (d : CallThere K V) × (call_of own m ≡ Some d)
      its = was_there caller acted own effects m c is

      Goal : Bool → Type 0
      Goal q =
          (d : CallThere K V) × (call_of own m ≡ Some d) × (c.begun ≡ d.begun)
          × (d.owes ++ (if q then out_in (Some caller) acted effects m else []) ≡ (if q then flat_map handed_in effects else []) ++ c.owes)

      Of : List ℕ → Type 0
      Of l =
          HandInOrder (Some l) acted effects m → call_of own (with_effects (Some l) acted effects m) ≡ Some c
          → (d : CallThere K V) × (call_of own m ≡ Some d) × (c.begun ≡ d.begun) × (d.owes ++ out_in (Some l) acted effects m ≡ flat_map handed_in effects ++ c.owes)

      of_own : Of own
      of_own hands there =
          let on = effects_go own acted effects m its.0 its.1 hands in
          let one = one_of on.0 c (sym on.1 ∙ there) in
          (its.0, its.1, ap (λ (x : CallThere K V). x.begun) (sym one) ∙ on.2, on.3 ∙ ap (λ (x : CallThere K V). flat_map handed_in effects ++ x.owes) one)

      by : (q : Bool) → is_same caller own ≡ q → Goal (is_same caller own)
      by true e = subst Goal (sym e) (subst Of (sym (is_same_is caller own e)) of_own all is)
      by false e =
          let apart = ap (λ (l : List ℕ). is_same l caller) (caller_is own m its.0 its.1) ∙ apart_back caller own e in
          let one = one_of its.0 c (sym (others_still caller acted own effects m its.0 apart its.1) ∙ is) in
          subst Goal (sym e) (its.0, its.1, ap (λ (x : CallThere K V). x.begun) (sym one), append-nil its.0.owes ∙ ap (λ (x : CallThere K V). x.owes) one)

pub effects_fold : (K V : Type 0) → EffectsFold K V
effects_fold K V own acted effects m c is all = effects_go own acted effects m c is all
