-- By a step of an event of a call no pair comes or goes twice within the event: no class changes twice, and each pair in a map is the one of its class.
use Rattle.std.specs.Prelude.{◌≡◌, ◌⊎◌, ℕ, Bool, true, false, List, [], ◌∷◌, Option, Some, None}
use Rattle.std.proofs.Common.{refl, ap, sym, subst, ◌∙◌, inl, inr}
use Rattle.run_grows.specs.Given.TablesDeclared.node.Node.{Node}
use Rattle.run_grows.specs.Given.RawDeclared.machines.progress.Progress.{Progress}
use Rattle.run_grows.specs.Given.RunsLog.{pair_at}
use Rattle.run_grows.specs.Given.RunsDeclared.effect.Effect.{Effect}
use Rattle.run_grows.specs.Given.RunsDeclared.effect.Effect.TheVariants.{Stored}
use Rattle.run_grows.specs.Given.SchedulesAfter.{moment}
use Rattle.run_grows.specs.Given.SchedulesEffects.{new_pair, stored_by, with_effect, with_effects}
use Rattle.run_grows.specs.Given.SchedulesEntry.{Entry, acting}
use Rattle.run_grows.specs.Given.SchedulesMoment.{UnderWay as CallThere, Moment, Place}
use Rattle.run_grows.specs.Given.SchedulesViews.{finite_map, is_in_map}
use Rattle.run_grows.specs.Given.CallersTogether.{UnderWay, OnKey, ForRoom, Counting, OverAll}
use Rattle.run_grows.specs.Given.EffectsEffects.{effects_of, known_after}
use Rattle.run_grows.specs.Given.EffectsKnown.{Known}
use Rattle.run_grows.specs.Given.EffectsDeclared.acting.Acting.TheVariants as acts
use Rattle.run_grows.specs.Given.FinishesMaps.{Standing}
use Rattle.run_grows.proofs.Given.FollowsContents.{lasts_more}
use Rattle.run_grows.specs.Given.MomentsWhole.{RefinesWhole}
use Rattle.run_grows.specs.Given.HistoriesInEvent.{InEvent, here_of}
use Rattle.run_grows.specs.Given.ChangesKept.{HasJustBegun}
use Rattle.run_grows.proofs.Given.HistoriesAnyCall.InEvent.{events_keep_all}
use Rattle.run_grows.proofs.Given.HistoriesRetaining.{found_there}
use Rattle.run_sweeps.specs.Purposes.Kept.{NoneCame, PairsChangeFirst}
use Rattle.run_sweeps.specs.OwnPairs.{EachIsItsOwn}
use Rattle.run_legal.proofs.CallChanges.{changes_first}
use Rattle.run_grows.specs.Given.ScenesHeld.{Held, IsAt}
use Rattle.run_grows.specs.Given.ScenesScene.{Scene}
use Rattle.run_grows.specs.Given.ScenesStepping.{StepLeads, scene_after}
use Rattle.run_grows.specs.Given.SchedulesTransition.{past}
use Rattle.run_grows.proofs.Given.General.{same_some as one_of}
use Rattle.run_sweeps.proofs.OwnPairs.{each_is_its_own}

-- what was stored has its number still
module _ {K V : Type 0} (caller : Option (List ℕ)) (acted : Option ℕ) where
  one_lasts : (o : Option (CallThere K V)) (f : Effect) (stored : List (K × V)) (n : ℕ) (p : K × V) → pair_at stored n ≡ Some p → pair_at (stored_by o f stored) n ≡ Some p
  one_lasts (Some c) (Stored k s) stored n p is = lasts_more stored (new_pair c.call c k) n p is
  one_lasts (Some c) _ stored n p is = is
  one_lasts None f stored n p is = is

  stored_lasts : (effects : List Effect) (m : Moment K V) (n : ℕ) (p : K × V) → pair_at m.stored n ≡ Some p → pair_at (with_effects caller acted effects m).stored n ≡ Some p
  stored_lasts [] m n p is = is
  stored_lasts (f ∷ effects) m n p is = stored_lasts effects (with_effect caller acted f m) n p (one_lasts (acting caller m) f m.stored n p is)

module _ {K V : Type 0} (same : K → K → Bool) (hash : ℕ → K → ℕ) (name : ℕ → List ℕ) (log : List (Entry K V)) (beginning : Moment K V) (map i : ℕ) (c : CallThere K V) (done : List Effect) (m : Moment K V)
    (known : Known) (s : Scene K V) (whole : RefinesWhole same name m known s) (old new : Held K V) (at : IsAt same hash old s) (said : Progress (Node K V)) (leads : StepLeads same hash i said s old new)
    (u : UnderWay K V K) (midst : InEvent same name (past log) beginning map i c done m known s u) (begun : HasJustBegun (past log) beginning) (its_worked : m ≡ with_effects (Some (name i)) (Some map) done beginning)
    (own_first : EachIsItsOwn same map (moment log)) where
  abbrev here : s.calls map i ≡ Some u
  here = here_of same name (past log) beginning map i c done m known s u midst

  abbrev effects : List Effect
  effects = effects_of (acts.Call i map) known new.changed

  abbrev v : Moment K V
  v = with_effects (Some (name i)) (Some map) effects m

  abbrev standing : Standing K
  standing = (leads map u here).0

  abbrev standing_then : Standing K
  standing_then = record standing {
    chart = (leads map u here).4.its_map.0;
    blocks = (leads map u here).4.its_map.1;
    sights = (leads map u here).4.its_map.2;
  }

  own_now : EachIsItsOwn same map m
  own_now = each_is_its_own same hash name m known s old at whole map standing (leads map u here).2

  own_then : EachIsItsOwn same map v
  own_then = each_is_its_own same hash name v (known_after (acts.Call i map) new.changed known)
      (scene_after same s old new map i standing u (leads map u here).1 said (leads map u here).4) new (leads map u here).5
      (events_keep_all K V same hash name (past log) beginning map i c done m known s u midst old new at said leads).0 map standing_then (leads map u here).4.its_map.4

  lasts : (n : ℕ) (p : K × V) → pair_at (moment log).stored n ≡ Some p → pair_at v.stored n ≡ Some p
  lasts n p is = stored_lasts (Some (name i)) (Some map) effects m n p (subst (λ (x : Moment K V). pair_at x.stored n ≡ Some p) (sym its_worked)
      (stored_lasts (Some (name i)) (Some map) done beginning n p (ap (λ (xs : List (K × V)). pair_at xs n) begun.1 ∙ is)))

  first_class : (k : K) → (finite_map same map v k ≡ finite_map same map m k) ⊎ (finite_map same map m k ≡ finite_map same map (moment log) k)
  first_class = changes_first same hash name log beginning map i c done m known s old new at said leads u midst

  -- by a call on no key none comes
  pub none_comes : ((k : K) → (finite_map same map v k ≡ finite_map same map beginning k) ⊎ (finite_map same map v k ≡ None)) → NoneCame (past log) v map
  none_comes fewer n v_in =
      let own = own_then n v_in in
      elim (fewer own.0.0) as (λ _. is_in_map map ((moment log).place n) ≡ true) [
        | inl e ↦
            ap (λ (f : ℕ → Place). is_in_map map (f n)) (sym begun.0) ∙ found_there same map beginning own.0.0 n (sym e ∙ own.2)
        | inr e ↦ absurd (let found = own.2 in cc (e, found))
      ]

  pub pairs_first : PairsChangeFirst (past log) m map v
  pairs_first n = by (is_in_map map (m.place n)) (is_in_map map (v.place n)) refl refl
    where
      First : Type 0
      First = (is_in_map map (v.place n) ≡ is_in_map map (m.place n)) ⊎ (is_in_map map (m.place n) ≡ is_in_map map ((moment log).place n))

      -- a pair that comes was not there before, if its class had then what it had as the event began
      was_out : is_in_map map (m.place n) ≡ false → (p : K × V) → pair_at v.stored n ≡ Some p → finite_map same map m p.0 ≡ finite_map same map (moment log) p.0
          → (q : Bool) → is_in_map map ((moment log).place n) ≡ q → is_in_map map ((moment log).place n) ≡ false
      was_out out p p_is as_first false is = is
      was_out out p p_is as_first true is =
          let own = own_first n is in
          let one : own.0 ≡ p = one_of own.0 p (sym (lasts n own.0 own.1) ∙ p_is) in
          let found : finite_map same map m p.0 ≡ Some n = as_first ∙ ap (λ (x : K × V). finite_map same map (moment log) x.0) (sym one) ∙ own.2 in
          absurd (let there = found_there same map m p.0 n found in cc (there, out))

      by : (a b : Bool) → is_in_map map (m.place n) ≡ a → is_in_map map (v.place n) ≡ b → First
      by true b m_in v_is =
          let own = own_now n m_in in
          elim (first_class own.0.0) as (λ _. First) [
            | inl e ↦ inl (found_there same map v own.0.0 n (e ∙ own.2) ∙ sym m_in)
            | inr e ↦ inr (m_in ∙ sym (found_there same map (moment log) own.0.0 n (sym e ∙ own.2)))
          ]
      by false false m_out v_out = inl (v_out ∙ sym m_out)
      by false true m_out v_in =
          let own = own_then n v_in in
          elim (first_class own.0.0) as (λ _. First) [
            | inl e ↦ absurd (let there = found_there same map m own.0.0 n (sym e ∙ own.2) in cc (there, m_out))
            | inr e ↦ inr (m_out ∙ sym (was_out m_out own.0 own.1 e (is_in_map map ((moment log).place n)) refl))
          ]

-- where its event began
module _ {K V : Type 0} (same : K → K → Bool) (name : ℕ → List ℕ) (log : List (Entry K V)) (beginning : Moment K V) (map i : ℕ) (c : CallThere K V) (done : List Effect) (m : Moment K V)
    (known : Known) (s : Scene K V) where
  pub begun_so : (u : UnderWay K V K) → InEvent same name (past log) beginning map i c done m known s u → HasJustBegun (past log) beginning
  begun_so (OnKey x) midst = midst.2.begins
  begun_so (ForRoom r) midst = midst.begins
  begun_so (Counting sum) midst = midst.begins
  begun_so (OverAll o) midst = midst.begins
