-- What users and rows do puts nothing behind a block, and leaves what lies there. Behind one that its maker has there is nothing.
use Rattle.std.specs.Prelude.{Option, Ok, Err}
use Rattle.std.proofs.Common.{◌≡◌, ℕ, Bool, true, false, cond, eqb, List, [], ◌∷◌, refl, arith, ap, sym, subst, ◌∙◌}
use Rattle.seize_model.specs.Given.SeizeWordsOp.{Out, Make, Found, Stored, Exchanged, Made, Taken, Roomed}
use Rattle.seize_model.specs.Given.SeizeWordsMem.{Mem, Took, value_at}
use Rattle.seize_model.specs.Given.SeizeLaw.{Place, Nowhere, Standing, With, without, where_is, is_somewhere, owner_of}
use Rattle.seize_model.specs.Given.SeizeSequence.{IsUsers}
use Rattle.seize_model.specs.Given.SeizeWorld.{World, Hand, Making, Handed, Event, Begin, Step, Makes, Drops, Links, Parts, Unlinks, Rewrites, Operates, Ends, LeavesOver, Relinks, Clears, Chooses, Happens, Runs, Steps', made_by}
use Rattle.seize_model.proofs.Given.SeizeMovesState.Ghost.{Life, IsOwned, is_linked, place_of}
use Rattle.seize_model.proofs.Given.SeizeRulePoints.Aside.{HandFits}
use Rattle.seize_model.proofs.Given.SeizeRuleRows.Effects.{owner_kept, place_kept}
use Rattle.seize_model.proofs.Given.SeizeRuleWorld.Values.{own_op_value, taken_value, made_value, rewritten_value}
use Rattle.seize_model.proofs.Alone.Histories.NotTaken.{CanBeReached, did, kept_there, kept_value}
use Rattle.seize_model.proofs.Alone.Histories.Reached.{Reached, happens_reached}
use Rattle.map_facts_late.specs.Given.TablesDeclared.node.Node.{Node}
use Rattle.map_facts_late.specs.Given.RuleInWorld.{AllUsers}
use Rattle.many_calls.specs.Kept.{IsPairOf}

-- what carries a block is linked, and so its maker doesn't have it
carrier_linked : (life : ℕ → Life) (l : Life) (t : ℕ) → place_of life l ≡ With t → is_linked (life t) ≡ true
carrier_linked life l t h = grind (arith, h)

pub carrier_not_made : {T : Type 0} (defers : T → Option ℕ) (size : ℕ) (w : World T) → Reached defers size w → (b t : ℕ) → where_is b w.log ≡ With t → (i : ℕ) → w.hand t ≡ Making i → ⊥
carrier_not_made defers size w r b t at i making =
    let life = r.good.state.life in
    let linked : is_linked (life t) ≡ true = carrier_linked life (life b) t (sym (r.good.inv.logged.reaches b) ∙ ap (where_is b) r.good.logged ∙ at) in
    let owned : life t ≡ IsOwned i = subst (λ (h : Hand). HandFits h (life t)) making (r.good.hands t) in
    let no_link : is_linked (life t) ≡ false = ap is_linked owned in
    cc (linked, no_link)

-- the collector has what lies behind a block
handed_by : (h : Hand) (life : ℕ → Life) (l : Life) (t : ℕ) → place_of life l ≡ With t → HandFits h l → h ≡ Handed
handed_by h life l t at fits = grind (arith, at, fits)

pub behind_handed : {T : Type 0} (defers : T → Option ℕ) (size : ℕ) (w : World T) → Reached defers size w → (x t : ℕ) → where_is x w.log ≡ With t → w.hand x ≡ Handed
behind_handed defers size w r x t at =
    handed_by (w.hand x) r.good.state.life (r.good.state.life x) t (sym (r.good.inv.logged.reaches x) ∙ ap (where_is x) r.good.logged ∙ at) (r.good.hands x)

-- What lies behind another block then did so before, is the same owner's, and has the value that it had.
abbrev pub LaySo : {T : Type 0} → ℕ → ℕ → World T → World T → Type 0
LaySo x t w w2 = where_is x w2.log ≡ With t → (where_is x w.log ≡ With t) × (owner_of x w2.log ≡ owner_of x w.log) × (value_at w2.memory x ≡ value_at w.memory x)

pub lay_then : {T : Type 0} (x t : ℕ) (w v w2 : World T) → LaySo x t w v → LaySo x t v w2 → LaySo x t w w2
lay_then x t w v w2 first then at = let a = then at in let b = first a.0 in (b.0, a.1 ∙ b.1, a.2 ∙ b.2)

-- a block at which another place stands is another one
not_here : (t o owner : ℕ) (here there : Place) (q : Bool) → (here ≡ With t → ⊥) → cond q here there ≡ With t → (there ≡ With t) × (cond q o owner ≡ owner)
not_here t o owner here there true none h = absurd (none h)
not_here t o owner here there false none h = (h, refl)

-- what is deferred lies behind that block, if behind any
pub deferred_behind : (here stands : Bool) (d t : ℕ) (before : Place) → here ≡ true → cond here (cond stands (With d) Nowhere) before ≡ With t → d ≡ t
deferred_behind true true d t before is at = cc at
deferred_behind true false d t before is at = absurd (cc at)
deferred_behind false stands d t before is at = absurd (cc is)

-- where something is unlinked, what lies behind a block lay there before
without_back : (t c : ℕ) (p : Place) → without c p ≡ With t → p ≡ With t
without_back t c p h = grind (arith, h)

module _ {T : Type 0} (defers : T → Option ℕ) (size x t : ℕ) where
  -- it is none that its maker has
  not_made : (w : World T) → Reached defers size w → where_is x w.log ≡ With t → (b : ℕ) → (h : ℕ) × (w.hand b ≡ Making h) → x ≡ b → ⊥
  not_made w r at b (h, making) e = let handed = behind_handed defers size w r x t at in let own : w.hand x ≡ Making h = ap w.hand e ∙ making in cc (handed, own)

  -- what users do puts nothing behind a block, and leaves what lies there
  user_back : (e : Event T) (w w2 : World T) → Reached defers size w → IsUsers e → Happens defers size e w w2 → LaySo x t w w2
  user_back (Begin i request) w w2 r u e = absurd u
  user_back (Step i) w w2 r u e = absurd u
  user_back (Makes i value words) w w2 r u e = subst (LaySo x t w) (sym e.4) (made_back e.0 e.3)
    where
      made_back : (out : Out T) → Took w.memory (Make value words) out e.1 → LaySo x t w (made_by defers w i e.1 out)
      made_back (Made (Ok b)) took at = (at, refl, made_value defers w.memory x value words (Made (Ok b)) e.1 (kept_there defers size w r x (CanBeReached (ap is_somewhere at))) took)
      made_back (Made (Err back)) took at = (at, refl, made_value defers w.memory x value words (Made (Err back)) e.1 (kept_there defers size w r x (CanBeReached (ap is_somewhere at))) took)
      made_back (Found word) took at = absurd took.0
      made_back Stored took at = absurd took.0
      made_back (Exchanged result) took at = absurd took.0
      made_back (Taken block) took at = absurd took.0
      made_back (Roomed result) took at = absurd took.0
  user_back (Drops i b) w w2 r u e =
      subst (LaySo x t w) (sym e.4) (λ at. let before = (not_here t 0 0 Nowhere (where_is x w.log) (eqb x b) (λ k. cc k) at).0 in
      (before, refl, taken_value defers w.memory x b e.0 e.1 e.3 (not_made w r before b e.2)))
  user_back (Links i b o) w w2 r u e =
      subst (LaySo x t w) (sym e.1) (λ at. let k = not_here t o (owner_of x w.log) Standing (where_is x w.log) (eqb x b) (λ k. cc k) at in (k.0, k.1, refl))
  user_back (Parts i b) w w2 r u e = subst (LaySo x t w) (sym e.1) (λ at. (at, refl, refl))
  user_back (Unlinks i b) w w2 r u e =
      subst (LaySo x t w) (sym e.1) (λ at. (without_back t b (where_is x w.log) (not_here t 0 0 Nowhere (without b (where_is x w.log)) (eqb x b) (λ k. cc k) at).0, refl, refl))
  user_back (Rewrites i b value) w w2 r u e = subst (LaySo x t w) (sym e.5) (λ at. (at, refl, rewritten_value defers w.memory x b value e.0 e.1 e.3 (not_made w r at b e.2)))
  user_back (Operates op) w w2 r u e =
      subst (LaySo x t w) (sym e.4) (λ at. (at, refl, ap (λ (m : Mem T). value_at m x) e.3.1 ∙ own_op_value defers w.memory x op e.0 e.2))
  user_back (Ends i o) w w2 r u e = absurd u
  user_back (LeavesOver i b further) w w2 r u e = absurd u
  user_back (Relinks i b word) w w2 r u e = absurd u
  user_back (Clears i b) w w2 r u e = absurd u
  user_back (Chooses choice) w w2 r u e = subst (LaySo x t w) (sym e) (λ at. (at, refl, refl))

  pub events_back : (events : List (Event T)) (w w2 : World T) → Reached defers size w → AllUsers events → Runs defers size events w w2 → LaySo x t w w2
  events_back [] w w2 r users runs = subst (LaySo x t w) (sym runs) (λ at. (at, refl, refl))
  events_back (e ∷ events) w w2 r users runs =
      lay_then x t w runs.0 w2 (user_back e w runs.0 r users.0 runs.1) (events_back events runs.0 w2 (happens_reached defers size e w runs.0 r runs.1) users.1 runs.2)

  -- nor does a step of a row
  pub row_back : (w w2 : World T) → Reached defers size w → (i : ℕ) → Steps' defers i (w.row i) w w2 → LaySo x t w w2
  row_back w w2 r i step at =
      let d = did defers size w r i w2 step in
      let before = sym (ap (where_is x) d.logged ∙ place_kept x d.effects w.log d.one) ∙ at in
      (before, ap (owner_of x) d.logged ∙ owner_kept x d.effects w.log d.one, kept_value defers size w r i w2 step x (CanBeReached (ap is_somewhere before)))

-- where whose it is and its value are the same, a pair of an owner's is one
pub pair_on : {K V : Type 0} (owner b : ℕ) (w w2 : World (Node K V)) → owner_of b w2.log ≡ owner_of b w.log → value_at w2.memory b ≡ value_at w.memory b → IsPairOf w owner b → IsPairOf w2 owner b
pair_on owner b w w2 same_owner same_value is = record { owner_is = same_owner ∙ is.owner_is; pair = (is.pair.0, is.pair.1, same_value ∙ is.pair.2) }
