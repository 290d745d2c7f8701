-- Each step of the end of a map: it may be taken, what it does, and what is known where it leads.
use Rattle.std.proofs.Common.{◌≡◌, ℕ, suc, ◌≤◌, ◌<◌, Bool, true, cond, List, [], inl, inr, refl, arith, ap, sym, subst, ◌∙◌}
use Rattle.std.proofs.lemmas.Bool.{eq-eqb}
use Rattle.many_calls.specs.Given.SeizeWordsMem.{Mem, Can, Took, value_at}
use Rattle.many_calls.specs.Given.SeizeWordsPlan.{May, Steps}
use Rattle.many_calls.specs.Given.SeizeDeclared.rows.settle.Settled.{Settled}
use Rattle.many_calls.specs.Given.SeizeLaw.{Ended, Standing, Place, owner_of, where_is, is_orphan, is_over, is_standing}
use Rattle.many_calls.specs.Given.SeizeWorld.{World, times, with_effect}
use Rattle.many_calls.specs.Given.RawEndMap.{ending, plan_at, end_map_plan}
use Rattle.many_calls.specs.Given.TablesDeclared.node.Node.{Node}
use Rattle.many_calls.specs.Given.TablesDeclared.setting.Setting.{Setting}
use Rattle.many_calls.specs.Given.RawDeclared.machines.end_map.EndMap.{EndMap}
use Rattle.many_calls.specs.Given.RawDeclared.machines.end_map.Ending.{Ending}
use Rattle.many_calls.specs.Given.RawDeclared.machines.end_map.Ending.TheVariants as at
use Rattle.many_calls.specs.Given.RuleChart.{Chart}
use Rattle.many_calls.specs.Given.RuleWords.{Blocks}
use Rattle.many_calls.specs.Given.PointsSteps.{AreLawful}
use Rattle.many_maps.specs.FactsEnds.{RootAt, HasDeferred, IsOverStill, Since, BeganIn, MayEnd, EndingFacts, EndFacts, EndStepSpec, wait_before}
use Rattle.many_maps.proofs.Ends.OrdersOn.{before_none}
use Rattle.many_maps.proofs.Ends.Pairs.{may_reads, went_reads, may_words, went_words, may_takes, went_takes, may_nexts, went_nexts}
use Rattle.many_maps.proofs.Ends.Carries.{may_carries, went_carries}
use Rattle.many_maps.proofs.Ends.Deferred.{may_joins, went_joins, may_follows_own, went_follows_own, may_follows_joined, went_follows_joined, may_gives, went_gives}
use Rattle.many_maps.proofs.Ends.Tables.{may_afters, went_afters, may_drops, went_drops, may_shards, went_shards}
use Rattle.many_maps.proofs.Ends.Roots.{may_sets, went_sets, may_frees, went_frees}

-- An end begins.
module _ {K V : Type 0} (same : K → K → Bool) (hash : K → ℕ) (setting : Setting) (c : Chart K) (blocks : Blocks) (lists : ℕ → List ℕ) (owns : Bool) (caller : ℕ) (w0 : World (Node K V))
    (may : MayEnd setting c blocks lists owns same hash w0) where
  pub began_in : BeganIn setting c blocks lists owns same hash w0
  began_in = record { map = may.map; counter = may.counter; owned = λ owned t from made. may.carries t from made }

  -- the world in which the owner has ended
  abbrev pub ended : World (Node K V)
  ended = with_effect w0 (Ended setting.counter)

  pub over_still : (x : ℕ) → owner_of x w0.log ≡ setting.counter → where_is x w0.log ≡ Standing → IsOverStill setting.counter w0 ended x
  over_still x owner standing = record {
    value = refl;
    owner_is = owner;
    orphan = ap (λ (q : Bool). cond q true (is_orphan x w0.log)) (eq-eqb (owner_of x w0.log) setting.counter owner);
    over = ap (λ (q : Bool). cond q (cond (is_standing (where_is x w0.log)) true (is_over x w0.log)) (is_over x w0.log)) (eq-eqb (owner_of x w0.log) setting.counter owner)
        ∙ ap (λ (p : Place). cond (is_standing p) true (is_over x w0.log)) standing;
  }

  none_waits : wait_before setting c blocks lists owns c.first ≡ []
  none_waits = before_none setting c blocks lists owns c.first (omega arith)

  behind_ended : (t : ℕ) → c.first ≤ t → t < c.past → HasDeferred ended (blocks.table t) (lists t)
  behind_ended t from made = let h = may.carries t from made in record { are = h.are; once = h.once; theirs = h.theirs; all = h.all }

  -- it knows what its first point is to know
  pub end_begins : EndFacts setting c blocks lists owns caller hash w0 ended (ending setting owns) c.first []
  end_begins = record {
    setting_is = refl;
    owns_is = refl;
    since = record {
      tables = λ t from made fresh.
          let used = may.map.tables t from made in
          let stands = may.tables t from made in
          record {
            still = over_still (blocks.table t) stands.0 stands.1;
            words = λ i word other is. is;
            used = λ later. (used, stands.2);
            carries = λ later. behind_ended t from made;
            left = λ before. absurd (omega (arith, before, from));
          };
      pairs = λ n current fresh. let stands = may.pairs n current in (over_still (blocks.pair n) stands.0 stands.1, (may.map.pairs n current, stands.2));
      counter = λ fresh. (may.map.counter, may.counter);
      once = λ x. let a = ap (times x) none_waits in omega (arith, a);
      waits = λ x on. absurd (let a = ap (times x) none_waits in omega (arith, a, on));
      free = may.free;
    };
    root = (may.map.map.shows.root_there, may.used);
    point = (refl, refl, refl, refl);
  }

-- It takes its steps.
module _ {K V : Type 0} (same : K → K → Bool) (hash : K → ℕ) (are : AreLawful same hash) (setting : Setting) (c : Chart K) (blocks : Blocks) (lists : ℕ → List ℕ) (owns : Bool) (caller : ℕ)
    (w0 : World (Node K V)) (may : BeganIn setting c blocks lists owns same hash w0) (w : World (Node K V)) (e : EndMap) where
  abbrev Step : ℕ → List ℕ → Ending → Type 0
  Step past back stage = May Can Took value_at w.memory (plan_at e stage)
      × ((m2 : Mem (Node K V)) (end : EndMap × Settled (Node K V)) → Steps Took value_at w.memory (plan_at e stage) m2 end → EndStepSpec setting c blocks lists owns caller hash w0 w past back m2 end)

  module _ (setting_is : e.setting ≡ setting) (owns_is : e.owns ≡ owns) (past : ℕ) (back : List ℕ) (since : Since setting c blocks lists owns caller w0 w past back) where
    behind : (t : ℕ) → past ≡ suc t → Since setting c blocks lists owns caller w0 w (suc t) back
    behind t is = subst (λ (p : ℕ). Since setting c blocks lists owns caller w0 w p back) is since

    of_past : (t : ℕ) (stage : Ending) → past ≡ suc t → Step (suc t) back stage → Step past back stage
    of_past t stage is step = subst (λ (p : ℕ). Step p back stage) (sym is) step

    step_at : (stage : Ending) → RootAt hash setting c blocks w.memory stage → EndingFacts setting c blocks lists owns caller hash w e past back stage → Step past back stage
    step_at at.Reads root (a, b, d, g) = (
      may_reads same hash are setting c blocks lists owns caller w0 may e setting_is owns_is past w back since root a b d g,
      went_reads same hash are setting c blocks lists owns caller w0 may e setting_is owns_is past w back since root a b d g,
    )
    step_at at.Words root (t, here, inside, all) = (
      may_words same hash are setting c blocks lists owns caller w0 may e setting_is owns_is past w back since root t here inside all,
      went_words same hash are setting c blocks lists owns caller w0 may e setting_is owns_is past w back since root t here inside all,
    )
    step_at (at.Takes pair) root (t, n, here, inside, link, current, was, all) = (
      may_takes same hash are setting c blocks lists owns caller w0 may e setting_is owns_is past w back since root pair t n here inside link current all,
      went_takes same hash are setting c blocks lists owns caller w0 may e setting_is owns_is past w back since root pair t n here inside link current all,
    )
    step_at at.Nexts root (t, here, all) = (
      may_nexts same hash are setting c blocks lists owns caller w0 may e setting_is owns_is past w back since root t here all,
      went_nexts same hash are setting c blocks lists owns caller w0 may e setting_is owns_is past w back since root t here all,
    )
    step_at at.Carries root (here, joined, all) = (
      may_carries same hash are setting c blocks lists owns caller w0 may e setting_is owns_is past w back since root here joined all,
      went_carries same hash are setting c blocks lists owns caller w0 may e setting_is owns_is past w back since root here joined all,
    )
    step_at (at.Joins pair) root (t, here, is, j) = of_past t (at.Joins pair) is (
      may_joins same hash are setting c blocks lists owns caller w0 may e setting_is owns_is t w back (behind t is) root here pair j,
      went_joins same hash are setting c blocks lists owns caller w0 may e setting_is owns_is t w back (behind t is) root here pair j,
    )
    step_at (at.Follows pair) root (t, here, is, inl (q, rest, link, g)) = of_past t (at.Follows pair) is (
      may_follows_own same hash are setting c blocks lists owns caller w0 may e setting_is owns_is t w back (behind t is) root here pair q rest link g,
      went_follows_own same hash are setting c blocks lists owns caller w0 may e setting_is owns_is t w back (behind t is) root here pair q rest link g,
    )
    step_at (at.Follows pair) root (t, here, is, inr j) = of_past t (at.Follows pair) is (
      may_follows_joined same hash are setting c blocks lists owns caller w0 may e setting_is owns_is t w back (behind t is) root here pair j,
      went_follows_joined same hash are setting c blocks lists owns caller w0 may e setting_is owns_is t w back (behind t is) root here pair j,
    )
    step_at (at.Gives pair next) root (t, here, is, q, rest, link, g, there) = of_past t (at.Gives pair next) is (
      may_gives same hash are setting c blocks lists owns caller w0 may e setting_is owns_is t w back (behind t is) root here pair next q rest link g there,
      went_gives same hash are setting c blocks lists owns caller w0 may e setting_is owns_is t w back (behind t is) root here pair next q rest link g there,
    )
    step_at at.Afters root (t, here, is, joined, all) = (
      may_afters same hash are setting c blocks lists owns caller w0 may e setting_is owns_is past w back since root t is here joined all,
      went_afters same hash are setting c blocks lists owns caller w0 may e setting_is owns_is past w back since root t is here joined all,
    )
    step_at (at.Drops next) root (t, here, is, link, joined, all) = (
      may_drops same hash are setting c blocks lists owns caller w0 may e setting_is owns_is past w back since root t is here joined all next link,
      went_drops same hash are setting c blocks lists owns caller w0 may e setting_is owns_is past w back since root t is here joined all next link,
    )
    step_at at.Shards root (is, joined, all) = (
      may_shards same hash are setting c blocks lists owns caller w0 may e setting_is owns_is past w back since root is joined all,
      went_shards same hash are setting c blocks lists owns caller w0 may e setting_is owns_is past w back since root is joined all,
    )
    step_at at.Sets root (is, joined, all) = (
      may_sets same hash are setting c blocks lists owns caller w0 may e setting_is owns_is past is w back since all root joined,
      went_sets same hash are setting c blocks lists owns caller w0 may e setting_is owns_is past is w back since all root joined,
    )
    step_at at.Frees root (is, none, all) = (
      may_frees same hash are setting c blocks lists owns caller w0 may e setting_is owns_is past is w back since all root.0 root.1 none,
      went_frees same hash are setting c blocks lists owns caller w0 may e setting_is owns_is past is w back since all root.0 root.1 none,
    )
    step_at at.Over root point = absurd point

  -- the promise: it may take its next step, and goes on or has ended
  pub end_steps : (past : ℕ) (back : List ℕ) → EndFacts setting c blocks lists owns caller hash w0 w e past back
      → May Can Took value_at w.memory (end_map_plan e)
      × ((m2 : Mem (Node K V)) (end : EndMap × Settled (Node K V)) → Steps Took value_at w.memory (end_map_plan e) m2 end → EndStepSpec setting c blocks lists owns caller hash w0 w past back m2 end)
  end_steps past back f = step_at f.setting_is f.owns_is past back f.since e.stands f.root f.point
