-- A list of acts has led further by something that is no act: what seats knew of maps is so still, and their calls are those of the list.
use Rattle.std.specs.Prelude.{◌++◌, Option, Some, None}
use Rattle.std.proofs.Common.{◌≡◌, ℕ, Bool, List, [], ◌∷◌, refl, sym, subst, ◌∙◌}
use Rattle.many_acts.specs.Given.FinishesMaps.{Standing}
use Rattle.many_acts.specs.Given.ScenesScene.{slot_of}
use Rattle.many_acts.specs.Acts.Acts.{Answer}
use Rattle.many_acts.specs.Acts.Doings.{Doing, MayDo}
use Rattle.many_acts.specs.Acts.Lists.{Course, Reached, LedTo, nothing_done, on_by}
use Rattle.seize_views.specs.declared.view.Fixed.{Fixed}
use Rattle.threads_rule.specs.Views.Listed.{Called, calls_of, calls_then, AreNumbered, IsItsOwn}
use Rattle.threads_rule.specs.Views.Rule.{KnowsMap, AreRuns, IsFresh, runs_of}
use Rattle.threads_rule.specs.declared.view.Map.{Map}
use Rattle.threads_rule.specs.declared.view.View.{View}
use Rattle.threads_rule.proofs.Views.Listed.{as_long, calls_more, led_more, numbered_on}
use Rattle.threads_reclaims.specs.Reclaims.Rule.{AreAsWere}
use Rattle.seize_words.proofs.General.{all_and_one}

-- it begins no map, and is of no call
pub record IsAside {K V S : Type 0} (hash : S → K → ℕ) (doing : Doing K V S) : Type 0 where
  pub own : IsItsOwn hash doing
  pub numbers : (k : ℕ) → AreNumbered k (doing ∷ []) k
  pub calls : (seat : ℕ) (told : Answer K V) (calls : List (Called K V)) → calls_then seat doing told calls ≡ calls

module _ {K V S : Type 0} (same : K → K → Bool) (hash : S → K → ℕ) (fixed : Fixed) (course : Course V same hash fixed.batch_size fixed.roots slot_of) (doings : List (Doing K V S))
    (x : Reached V same hash fixed.batch_size fixed.roots slot_of) (led : LedTo V same hash fixed.batch_size fixed.roots slot_of course doings x) (doing : Doing K V S)
    (may : MayDo V same hash fixed.batch_size fixed.roots slot_of doing x.0) where
  abbrev pub further : Reached V same hash fixed.batch_size fixed.roots slot_of
  further = on_by V same hash fixed.batch_size fixed.roots slot_of course x doing may

  pub led_further : LedTo V same hash fixed.batch_size fixed.roots slot_of course (doings ++ doing ∷ []) further
  led_further = (led_more V same hash fixed.batch_size fixed.roots slot_of course doings doing (nothing_done V same hash fixed.batch_size fixed.roots slot_of course) x led may).0

  module _ (aside : IsAside hash doing) (maps : (m : ℕ) (r : Standing K) → x.0.0.maps m ≡ Some r → (r2 : Standing K) × (further.0.0.maps m ≡ Some r2) × (r2.setting ≡ r.setting) × (r2.hash ≡ r.hash))
      (fresh : (k : ℕ) → IsFresh x.0.0 k → IsFresh further.0.0 k) (views : ℕ → Option (View K V S)) where
    pub still_so : AreAsWere same hash fixed views doings x.1 x.0.0 → AreAsWere same hash fixed views (doings ++ doing ∷ []) further.1 further.0.0
    still_so were = record {
      maps = λ j v at. (let k = were.maps j v at in (knows_on v.map k.0, knows_on v.own k.1));
      alone = were.alone;
      apart = were.apart;
      fresh = let f = were.fresh in (f.0, fresh f.0 f.1, numbered_on doings (doing ∷ []) 0 f.0 f.0 f.2 (aside.numbers f.0));
      own = all_and_one (IsItsOwn hash) doings doing were.own aside.own;
      calls = λ j.
          subst (λ (c : List (Called K V)). AreRuns same hash c (runs_of (views j)))
          (sym (calls_more j doings x.1 doing (course.told x.0 doing may) [] (as_long V same hash fixed.batch_size fixed.roots slot_of course doings x led)
          ∙ aside.calls j (course.told x.0 doing may) (calls_of j doings x.1 []))) (were.calls j);
    }
      where
        knows_on : (map : Option (Map S)) → KnowsMap same hash x.0.0 map → KnowsMap same hash further.0.0 map
        knows_on None knows = tt
        knows_on (Some map) knows = let g = maps map.number knows.0 knows.1 in (g.0, g.1, g.2 ∙ knows.2, g.3 ∙ knows.3)
