-- What the steps of a caller leave as it is: who has a block that is neither its own nor of its map, and through what it is reached.
use Rattle.std.specs.Prelude.{◌≡◌, ◌≢◌, ℕ, Bool, false, cond, eqb, List, [], ◌∷◌, Some, Ok, Err}
use Rattle.std.proofs.Common.{refl, ap, sym, subst, ◌∙◌}
use Rattle.std.proofs.lemmas.Bool.{ne_eqb}
use Rattle.map_machines.specs.Given.SeizeWordsOp.{Out, Make, Found, Stored, Exchanged, Made, Taken, Roomed}
use Rattle.map_machines.specs.Given.SeizeWordsMem.{Mem, Took, value_at}
use Rattle.seize_rule.proofs.World.Values.{own_op_value, taken_value, made_value, rewritten_value}
use Rattle.seize_rule.specs.Given.SeizeLaw.{Place, Nowhere, Standing, With, without, where_is, owner_of, is_orphan, is_over}
use Rattle.seize_rule.specs.Given.SeizeWorld.{World, NoBlock, Making, InUse, Parting, Cutting, Event, Begin, Step, Makes, Drops, Links, Parts, Unlinks, Rewrites, Operates, Ends, LeavesOver, Relinks, Clears, Chooses, Happens, Runs, made_by}
use Rattle.map_machines.specs.Given.TablesNodes.{deferred_word}
use Rattle.map_machines.specs.Given.TablesDeclared.node.Node.{Node}
use Rattle.map_machines.specs.Given.TablesDeclared.setting.Setting.{Setting}
use Rattle.map_rule.specs.Chart.{Chart}
use Rattle.map_rule.specs.Words.{Blocks}
use Rattle.map_rule.specs.Beside.{IsBeside, KeptBeside, StepsSpareOthers}
use Rattle.map_rule.specs.InWorld.{IsIts, IsItsEvent, AllIts}
use Rattle.map_rule.proofs.World.Hands.{hand_kept}
use Rattle.map_rule.proofs.Words.BlocksApart.{new_apart}
use Rattle.map_machines.proofs.Given.General.{some_is as is_some_of}

module _ {K V : Type 0} (caller : ℕ) (w : World (Node K V)) (c : Chart K) (blocks : Blocks) where
  kept_then : (b : ℕ) (v v2 v3 : World (Node K V)) → KeptBeside caller w c blocks b v v2 → KeptBeside caller w c blocks b v2 v3 → KeptBeside caller w c blocks b v v3
  kept_then b v v2 v3 first then = record {
    value = then.value ∙ first.value;
    hand = then.hand ∙ first.hand;
    owner = then.owner ∙ first.owner;
    orphan = then.orphan ∙ first.orphan;
    over = then.over ∙ first.over;
    place = λ p beside is. then.place p beside (first.place p beside is);
  }

  without_kept : (x : ℕ) → IsIts caller w c blocks x → (p : Place) → IsBeside caller w c blocks p → without x p ≡ p
  without_kept x its Nowhere beside = refl
  without_kept x its Standing beside = refl
  without_kept x its (With t) beside = ap (λ (q : Bool). cond q Nowhere (With t)) (ne_eqb t x (λ e. beside (subst (IsIts caller w c blocks) (sym e) its)))

  module _ (setting : Setting) (b : ℕ) (other : IsIts caller w c blocks b → ⊥) (value : Node K V) where
    apart : (x : ℕ) → IsIts caller w c blocks x → b ≢ x
    apart x its e = other (subst (IsIts caller w c blocks) (sym e) its)

    -- what is put at another block's place says nothing of this one
    elsewhere : (x : ℕ) (here there p : Place) → IsIts caller w c blocks x → there ≡ p → cond (eqb b x) here there ≡ p
    elsewhere x here there p its is = ap (λ (q : Bool). cond q here there) (ne_eqb b x (apart x its)) ∙ is

    made_kept : (v : World (Node K V)) (i : ℕ) (new : Node K V) (words : ℕ) (out : Out (Node K V)) (m : Mem (Node K V)) → value_at v.memory b ≡ Some value
        → Took v.memory (Make new words) out m → KeptBeside caller w c blocks b v (made_by deferred_word v i m out)
    made_kept v i new words (Made (Ok x)) m there took = record {
      value = made_value deferred_word v.memory b new words (Made (Ok x)) m (is_some_of _ _ there) took;
      hand = hand_kept v.hand x (Making i) (v.hand b) b (new_apart v.memory b x value there took.0.0) refl;
      owner = refl;
      orphan = refl;
      over = refl;
      place = λ p beside is. is;
    }
    made_kept v i new words (Made (Err back)) m there took = record {
      value = made_value deferred_word v.memory b new words (Made (Err back)) m (is_some_of _ _ there) took;
      hand = refl;
      owner = refl;
      orphan = refl;
      over = refl;
      place = λ p beside is. is;
    }
    made_kept v i new words (Found word) m there took = absurd took.0
    made_kept v i new words Stored m there took = absurd took.0
    made_kept v i new words (Exchanged result) m there took = absurd took.0
    made_kept v i new words (Taken taken) m there took = absurd took.0
    made_kept v i new words (Roomed result) m there took = absurd took.0

    event_kept : (size : ℕ) (e : Event (Node K V)) (v v2 : World (Node K V)) → value_at v.memory b ≡ Some value → IsItsEvent setting caller w c blocks e
        → Happens deferred_word size e v v2 → KeptBeside caller w c blocks b v v2
    event_kept size (Begin i request) v v2 there its e = absurd its
    event_kept size (Step i) v v2 there its e = absurd its
    event_kept size (Makes i new words) v v2 there its e = subst (KeptBeside caller w c blocks b v) (sym e.4) (made_kept v i new words e.0 e.1 there e.3)
    event_kept size (Drops i x) v v2 there its e =
        subst (KeptBeside caller w c blocks b v) (sym e.4) (record {
          value = taken_value deferred_word v.memory b x e.0 e.1 e.3 (apart x its);
          hand = hand_kept v.hand x NoBlock (v.hand b) b (apart x its) refl;
          owner = refl;
          orphan = refl;
          over = refl;
          place = λ p beside is. elsewhere x Nowhere (where_is b v.log) p its is;
        })
    event_kept size (Links i x o) v v2 there its e =
        subst (KeptBeside caller w c blocks b v) (sym e.1) (record {
          value = refl;
          hand = hand_kept v.hand x (InUse o) (v.hand b) b (apart x its.0) refl;
          owner = ap (λ (q : Bool). cond q o (owner_of b v.log)) (ne_eqb b x (apart x its.0));
          orphan = ap (λ (q : Bool). cond q false (is_orphan b v.log)) (ne_eqb b x (apart x its.0));
          over = ap (λ (q : Bool). cond q false (is_over b v.log)) (ne_eqb b x (apart x its.0));
          place = λ p beside is. elsewhere x Standing (where_is b v.log) p its.0 is;
        })
    event_kept size (Parts i x) v v2 there its e =
        subst (KeptBeside caller w c blocks b v) (sym e.1) (record { value = refl; hand = hand_kept v.hand x (Parting i) (v.hand b) b (apart x its) refl; owner = refl; orphan = refl; over = refl; place = λ p beside is. is })
    event_kept size (Unlinks i x) v v2 there its e =
        subst (KeptBeside caller w c blocks b v) (sym e.1) (record {
          value = refl;
          hand = hand_kept v.hand x (Cutting i) (v.hand b) b (apart x its) refl;
          owner = refl;
          orphan = refl;
          over = refl;
          place = λ p beside is. elsewhere x Nowhere (without x (where_is b v.log)) p its (ap (without x) is ∙ without_kept x its p beside);
        })
    event_kept size (Rewrites i x new) v v2 there its e =
        subst (KeptBeside caller w c blocks b v) (sym e.5) (record { value = rewritten_value deferred_word v.memory b x new e.0 e.1 e.3 (apart x its); hand = refl; owner = refl; orphan = refl; over = refl; place = λ p beside is. is })
    event_kept size (Operates op) v v2 there its e =
        subst (KeptBeside caller w c blocks b v) (sym e.4) (record {
          value = ap (λ (m : Mem (Node K V)). value_at m b) e.3.1 ∙ own_op_value deferred_word v.memory b op e.0 e.2;
          hand = refl;
          owner = refl;
          orphan = refl;
          over = refl;
          place = λ p beside is. is;
        })
    event_kept size (Ends i o) v v2 there its e = absurd its
    event_kept size (LeavesOver i x further) v v2 there its e = absurd its
    event_kept size (Relinks i x word) v v2 there its e = absurd its
    event_kept size (Clears i x) v v2 there its e = absurd its
    event_kept size (Chooses choice) v v2 there its e = subst (KeptBeside caller w c blocks b v) (sym e) (record { value = refl; hand = refl; owner = refl; orphan = refl; over = refl; place = λ p beside is. is })

    -- such events leave the block as it is, if it is there
    pub events_kept : (size : ℕ) (events : List (Event (Node K V))) (v v2 : World (Node K V)) → value_at v.memory b ≡ Some value → AllIts setting caller w c blocks events
        → Runs deferred_word size events v v2 → KeptBeside caller w c blocks b v v2
    events_kept size [] v v2 there its runs = subst (KeptBeside caller w c blocks b v) (sym runs) (record { value = refl; hand = refl; owner = refl; orphan = refl; over = refl; place = λ p beside is. is })
    events_kept size (e ∷ events) v v2 there its runs =
        let first = event_kept size e v runs.0 there its.0 runs.1 in
        kept_then b v runs.0 v2 first (events_kept size events runs.0 v2 (first.value ∙ there) its.1 runs.2)

pub steps_spare_others : {K : Type 0} (V : Type 0) (same : K → K → Bool) (hash : K → ℕ) → StepsSpareOthers V same hash
steps_spare_others V same hash setting caller w c blocks m2 went b value there other =
    events_kept caller w c blocks setting b other value setting.batch_size went.events w went.w2 there went.its went.runs
