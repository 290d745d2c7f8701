-- Where all seats rest, and slots have words, one begins to reclaim all.
use Rattle.std.specs.Prelude.{◌++◌, ◌≢◌, Option, Some, None, IsSome, slice_get, map}
use Rattle.std.specs.Option.{is_none}
use Rattle.std.proofs.Common.{◌≡◌, ℕ, ◌<◌, ◌^◌, Bool, List, [], ◌∷◌, inl, inr, refl, sym, subst, ap, ◌∙◌}
use Rattle.std.proofs.lemmas.List.{map-set}
use Rattle.seize_words.specs.OneMemory.Mem.{Mem, word_at}
use Rattle.seize_words.specs.declared.at.At.TheVariants.{Slot}
use Rattle.seize.specs.declared.states.TheConstants.{HEAD}
use Rattle.seize.specs.declared.rows.reclaim_all.ReclaimAll.{ReclaimAll}
use Rattle.seize.specs.ReclaimAll.{reclaiming_all, clearing}
use Rattle.map_tables.specs.declared.node.Node.{Node}
use Rattle.many_acts.specs.Given.FinishesMaps.{Standing}
use Rattle.many_acts.specs.Given.ScenesScene.{Scene, slot_of}
use Rattle.many_acts.specs.Acts.Doings.{Doing, BeginsReclaiming, BeginsClearing, Stage, MayDo, HasBegun, HasDone, is_vacant, reclaiming}
use Rattle.many_acts.specs.Acts.Acts.{Answer}
use Rattle.seize_acts.proofs.Quiet.Promised.{slots_begin}
use Rattle.map_tables.specs.Nodes.{deferred_word}
use Rattle.many_acts.specs.Acts.Lists.{Reached}
use Rattle.many_acts.specs.Acts.Reclaiming.{IsReclaimingAll}
use Rattle.seize_seats.specs.Seats.State.{State, view_of, after}
use Rattle.seize_views.specs.declared.view.Fixed.{Fixed}
use Rattle.seize_reclaims.specs.declared.alone.Alone.{Alone}
use Rattle.seize_reclaims.specs.declared.alone.Alone.TheVariants.{Reclaims}
use Rattle.threads_rule.specs.Views.Notes.{SeatIsQuiescent}
use Rattle.threads_rule.specs.Views.Rule.{MapsWorld, Holds, IsFresh}
use Rattle.threads_rule.specs.declared.view.View.{View}
use Rattle.threads_reclaims.specs.Reclaims.Rule.{EndsIn, AreAsWere, Reclaiming, ReclaimsAt, IsOne, plainly, inside, freed, kept_of, acts_of}
use Rattle.threads_reclaims.specs.declared.sole.Sole.{Sole}
use Rattle.threads_reclaims.specs.declared.sole.Sole.TheVariants.{Acts, Left}
use Rattle.threads_reclaims.proofs.Reclaims.Counted.{ends_in}
use Rattle.threads_reclaims.proofs.Reclaims.Free.{so, all_idle, all_free, rests_so}
use Rattle.threads_reclaims.proofs.Reclaims.Inside.{set_but, one_on, at_inside, from_inside}
use Rattle.threads_reclaims.proofs.Reclaims.More.{IsAside, further, led_further, still_so}

pub some_none : {A : Type 0} (o : Option A) → IsSome o → is_none o ≡ Bool.false
some_none None is = absurd (cc is)
some_none (Some x) is = refl

module _ {K S : Type 0} (V : Type 0) (same : K → K → Bool) (hash : S → K → ℕ) (batch_size roots : ℕ) (slot : ℕ → ℕ) where
  -- who reclaims all at a stage
  pub stage_reclaims : (p : Stage V same hash batch_size roots slot) (i : ℕ) (c : ReclaimAll) → reclaiming V same hash batch_size roots slot p ≡ Some (i, c)
      → (lists : ℕ → List ℕ) × IsReclaimingAll V same batch_size roots slot p.0 i lists c
  stage_reclaims (s, all, inl left) i c e = absurd (cc e)
  stage_reclaims (s, all, inr (j, lists, d, idle)) i c e =
      let one : ◌≡◌ {A = ℕ × ReclaimAll} (j, d) (i, c) = cc e in
      (lists, subst (λ (it : ℕ × ReclaimAll). IsReclaimingAll V same batch_size roots slot s it.0 lists it.1) one idle)

module _ {K V S : Type 0} (same : K → K → Bool) (hash : S → K → ℕ) (fixed : Fixed) (word : fixed.batch_size < 2 ^ 64) where
  -- what is so of maps where the rule of maps holds
  pub are_as_were : (s : State (Node K V) (View K V S) (MapsWorld K V S)) (h : Holds same hash fixed s) → ((j : ℕ) (v : View K V S) → view_of s j ≡ Some v → SeatIsQuiescent v)
      → AreAsWere same hash fixed (view_of s) s.world.doings h.reached.1 h.reached.0.0
  are_as_were s h idle =
      let is = so same hash fixed s h idle in record {
        maps = λ j v at. (let f = is.seats j v at in (f.map, f.own));
        alone = λ j v at. (rests_so v (idle j v at)).3;
        apart = is.maps;
        fresh = is.fresh;
        own = h.own;
        calls = h.calls;
      }

  module _ (s : State (Node K V) (Sole K V S) (MapsWorld K V S)) (m : Mem (Node K V)) (id r : ℕ) (a : Alone (Node K V)) (v w : View K V S) (w1 : MapsWorld K V S)
      (at_id : view_of s id ≡ Some (Acts a r v)) (one : IsOne s) (rest : SeatIsQuiescent w) (others : (j : ℕ) (x : Sole K V S) → j ≢ id → view_of s j ≡ Some x → SeatIsQuiescent (plainly x))
      (h : Holds same hash fixed (after (inside s) m id w w1)) where
    abbrev before : State (Node K V) (View K V S) (MapsWorld K V S)
    before = after (inside s) m id w w1

    idle : (j : ℕ) (x : View K V S) → view_of before j ≡ Some x → SeatIsQuiescent x
    idle j x at = set_but (λ _ (y : View K V S). SeatIsQuiescent y) (map plainly s.views) id v w (at_inside s id (Acts a r v) at_id) rest (λ i u ne at_i. by i u ne (from_inside s i u at_i)) j x at
      where
        by : (i : ℕ) (u : View K V S) → i ≢ id → (y : Sole K V S) × (view_of s i ≡ Some y) × (plainly y ≡ u) → SeatIsQuiescent u
        by i u ne y = subst (λ (z : View K V S). SeatIsQuiescent z) y.2 (others i y.0 ne y.1)

    memory_is : m ≡ h.reached.0.0.world.memory
    memory_is = h.so.memory ∙ ap (λ (x : Scene K V). x.world.memory) h.scene

    -- by something that is no act, which begins to reclaim all by this
    module _ (doing : Doing K V S) (all : ReclaimAll) (aside : IsAside hash doing) (may : MayDo V same hash fixed.batch_size fixed.roots slot_of doing h.reached.0)
        (leads : (told : Answer K V) (n : Stage V same hash fixed.batch_size fixed.roots slot_of) → HasDone V same hash fixed.batch_size fixed.roots slot_of doing h.reached.0 told n
        → HasBegun V same hash fixed.batch_size fixed.roots slot_of id all h.reached.0 told n) where
      abbrev next : Reached V same hash fixed.batch_size fixed.roots slot_of
      next = further same hash fixed h.course w1.doings h.reached h.led doing may

      begun : HasBegun V same hash fixed.batch_size fixed.roots slot_of id all h.reached.0 (h.course.told h.reached.0 doing may) next.0
      begun = leads (h.course.told h.reached.0 doing may) next.0 (h.course.leads h.reached.0 doing may)

      abbrev there : Scene K V
      there = next.0.0

      same_scene : there ≡ h.reached.0.0
      same_scene = begun.1

      ends : (k : ℕ) × EndsIn k there.world.memory all
      ends =
          let g = stage_reclaims V same hash fixed.batch_size fixed.roots slot_of next.0 id all begun.3 in
          ends_in V same fixed.batch_size fixed.roots slot_of word there id g.0 all g.1

      abbrev acting : Sole K V S
      acting = Acts (Reclaims all None ends.0) r w

      abbrev then_ : State (Node K V) (Sole K V S) (MapsWorld K V S)
      then_ = after s m id acting record { doings = w1.doings ++ doing ∷ []; scene = there }

      memory_then : m ≡ there.world.memory
      memory_then = memory_is ∙ ap (λ (x : Scene K V). x.world.memory) (sym same_scene)

      were : AreAsWere same hash fixed (view_of (inside then_)) (w1.doings ++ doing ∷ []) next.1 there
      were =
          subst (λ (vs : List (View K V S)). AreAsWere same hash fixed (λ j. slice_get vs j) (w1.doings ++ doing ∷ []) next.1 there) (sym (map-set plainly s.views id acting))
          (still_so same hash fixed h.course w1.doings h.reached h.led doing may aside
          (λ n (standing : Standing K) at. (standing, ap (λ (x : Scene K V). x.maps n) same_scene ∙ at, refl, refl))
          (λ k fresh. subst (λ (x : Scene K V). IsFresh x k) (sym same_scene) fresh) (view_of before) (are_as_were before h idle))

      begins_all : Reclaiming same hash fixed then_
      begins_all = record {
        course = h.course;
        reached = next;
        led = led_further same hash fixed h.course w1.doings h.reached h.led doing may;
        scene = refl;
        memory = memory_then;
        caller = id;
        machine = all;
        here = begun.3;
        were = were;
        seats =
            set_but (λ _ (x : Sole K V S). ReclaimsAt m all x) s.views id (Acts a r v) acting at_id (refl, subst (λ (x : Mem (Node K V)). EndsIn ends.0 x all) (sym memory_then) ends.1, tt)
            (λ i x ne at. other i x ne at);
        one = one_on s m id r a v acting record { doings = w1.doings ++ doing ∷ []; scene = there } at_id one;
      }
        where
          -- the others do not act
          other : (i : ℕ) (x : Sole K V S) → i ≢ id → view_of s i ≡ Some x → ReclaimsAt m all x
          other i (Acts b q u) ne at = absurd (ne (one i id q r b a u v at at_id))
          other i (Left u) ne at = tt

      begins_goes : (x : Sole K V S) × (w2 : MapsWorld K V S) × Reclaiming same hash fixed (after s m id x w2) × ((left : ℕ) × (acts_of x ≡ Some (Reclaims all None left)))
          × (kept_of x ≡ freed w)
      begins_goes = (acting, record { doings = w1.doings ++ doing ∷ []; scene = there }, begins_all, (ends.0, refl), refl)

    abbrev all_slots : ReclaimAll
    all_slots = reclaiming_all fixed.batch_size fixed.roots

    abbrev Begins : ReclaimAll → Type 0
    Begins all = (x : Sole K V S) × (w2 : MapsWorld K V S) × Reclaiming same hash fixed (after s m id x w2) × ((left : ℕ) × (acts_of x ≡ Some (Reclaims all None left))) × (kept_of x ≡ freed w)

    -- with the slots
    pub begins_slots : IsSome (word_at m (Slot 0 HEAD)) → Begins (reclaiming_all fixed.batch_size fixed.roots)
    begins_slots slots =
        begins_goes (BeginsReclaiming id) all_slots (record { own = tt; numbers = λ k. refl; calls = λ seat told calls. refl }) (
          ap is_none h.nobody,
          word,
          all_free same hash fixed before h idle,
          some_none (word_at h.reached.0.0.world.memory (Slot 0 HEAD)) (subst (λ (x : Mem (Node K V)). IsSome (word_at x (Slot 0 HEAD))) memory_is slots),
        ) (λ told n is. is)

    -- or with the roots, where there are no slots
    pub begins_roots : word_at m (Slot 0 HEAD) ≡ None → Begins (clearing fixed.roots)
    begins_roots none =
        let q = (slots_begin deferred_word fixed.batch_size 0 id h.reached.0.0.world word h.reached.0.1.makings.standing.came (λ i. (all_idle same hash fixed before h idle i).row)).1
        (ap (λ (x : Mem (Node K V)). word_at x (Slot 0 HEAD)) (sym memory_is) ∙ none) in
        begins_goes (BeginsClearing id) (clearing fixed.roots) (record { own = tt; numbers = λ k. refl; calls = λ seat told calls. refl })
        (ap is_none h.nobody, word, all_free same hash fixed before h idle, record { vacant = λ a. ap is_vacant (q.vacant a); none = q.none }) (λ told n is. is)
