-- Rows on slots leave what is linked at the roots, and the world that they come to came about from the start.
use Rattle.std.specs.Prelude.{◌≢◌, Option, slice_get}
use Rattle.std.proofs.Common.{◌≡◌, ℕ, List, [], ◌∷◌, ◌⊎◌, inl, inr, refl, sym, subst, ap, ◌∙◌}
use Rattle.std.proofs.lemmas.Bool.{cases_eq}
use Rattle.seize.specs.Sequence.{taken_in}
use Rattle.seize.specs.World.{World, Hand, Event, Begin, Step, Happens, Runs, Register', Leave', Flush, Unregister', Request, times}
use Rattle.seize_rule.proofs.Rows.Effects.{hand_kept, taken_hand}
use Rattle.seize_model.proofs.Alone.Spared.Rows.{RowStepped}
use Rattle.seize_model.proofs.Alone.Spared.Users.{own_is_no_list}
use Rattle.seize.specs.World as world
use Rattle.seize_model.proofs.Alone.Histories.NotTaken.{IsHad, kept_hand, did}
use Rattle.seize_acts.specs.Quiet.Slots.{AreItsRows, IsForSlots}
use Rattle.seize_acts.specs.Quiet.Slots as quiet
use Rattle.seize_views.specs.Views.Chains.{all_roots, IsChainRoot, HasLink, Chain}
use Rattle.seize_views.specs.Views.Rows.{IsFound, RootsNameLinked, Came}
use Rattle.seize_views.specs.declared.view.TheConstants.{LINK}
use Rattle.seize_views.specs.declared.view.Fixed.{Fixed}
use Rattle.seize_views.proofs.Views.Came.{of_users, reached, came_then}
use Rattle.seize_views.proofs.Views.Chains.{SameLink, same_where, has_link_kept, chain_kept}
use Rattle.seize_views.proofs.Views.Found.{found_at}
use Rattle.seize_views.proofs.Views.Steps.{roots_kept}

module _ {T : Type 0} (defers : T → Option ℕ) (fixed : Fixed) where
  -- as the laws of one that reclaims all have it
  pub came_quiet : (w : World T) → Came defers fixed w → quiet.Came defers fixed.batch_size w
  came_quiet w came = (all_roots fixed, came.0, came.1)

  -- the roots name what they named, what is linked is so still, a block is in the hand that it was in, or is nobody's, and what is linked has the link that it had
  abbrev pub RootsStay : World T → World T → Type 0
  RootsStay w n =
      (n.memory.roots ≡ w.memory.roots) × ((b r : ℕ) → w.hand b ≡ world.InUse r → n.hand b ≡ world.InUse r)
      × ((b : ℕ) → (n.hand b ≡ w.hand b) ⊎ (n.hand b ≡ world.NoBlock))
      × ((b r : ℕ) → w.hand b ≡ world.InUse r → HasLink defers w.memory b → SameLink w.memory n.memory b)

  -- where one world has the memory of another one
  same_memory : (w n v : World T) → n ≡ v → v.memory ≡ w.memory → (b : ℕ) → SameLink w.memory n.memory b
  same_memory w n v is same b = same_where w.memory n.memory b (ap (λ (x : World T). x.memory) is ∙ same)

  begun_stays : (i : ℕ) (request : Request) → IsForSlots request → (w n : World T) → Happens defers fixed.batch_size (Begin i request) w n → RootsStay w n
  begun_stays i (Register' enters) is w n h = (ap (λ (x : World T). x.memory.roots) h.1, λ b r e. ap (λ (x : World T). x.hand b) h.1 ∙ e, λ b. inl (ap (λ (x : World T). x.hand b) h.1), λ b r e has. same_memory w n _ h.1 refl b)
  begun_stays i (Leave' s) is w n h = (ap (λ (x : World T). x.memory.roots) h.1.1, λ b r e. ap (λ (x : World T). x.hand b) h.1.1 ∙ e, λ b. inl (ap (λ (x : World T). x.hand b) h.1.1), λ b r e has. same_memory w n _ h.1.1 refl b)
  begun_stays i (Flush s) is w n h = (ap (λ (x : World T). x.memory.roots) h.1.1, λ b r e. ap (λ (x : World T). x.hand b) h.1.1 ∙ e, λ b. inl (ap (λ (x : World T). x.hand b) h.1.1), λ b r e has. same_memory w n _ h.1.1 refl b)
  begun_stays i (Unregister' s) is w n h = (ap (λ (x : World T). x.memory.roots) h.1.1, λ b r e. ap (λ (x : World T). x.hand b) h.1.1 ∙ e, λ b. inl (ap (λ (x : World T). x.hand b) h.1.1), λ b r e has. same_memory w n _ h.1.1 refl b)
  begun_stays i (world.Enter' s) is w n h = absurd is
  begun_stays i (world.LeaveOwned s) is w n h = absurd is
  begun_stays i (world.Refresh s) is w n h = absurd is
  begun_stays i (world.Retire s b) is w n h = absurd is
  begun_stays i (world.Defer' s b t) is w n h = absurd is

  pub step_stays : (i : ℕ) (w n : World T) → Came defers fixed w → Happens defers fixed.batch_size (Step i) w n → RootsStay w n
  step_stays i w n came step =
      let r = reached defers fixed w came in (
        (did defers fixed.batch_size w r i n step).frames.roots,
        λ b k e. kept_hand defers fixed.batch_size w r i n step b (IsHad (of_users w.hand b (world.InUse k) tt e)) ∙ e,
        λ b. hand_left b (did defers fixed.batch_size w r i n step) (cases_eq (times b (taken_in (did defers fixed.batch_size w r i n step).effects)) 0),
        λ b k e has. link_left b k (kept_hand defers fixed.batch_size w r i n step b (IsHad (of_users w.hand b (world.InUse k) tt e)) ∙ e) has
            (did defers fixed.batch_size w r i n step) (cases_eq (times b (taken_in (did defers fixed.batch_size w r i n step).effects)) 0),
      )
    where
      hand_left : (b : ℕ) (d : RowStepped defers i w n) → (times b (taken_in d.effects) ≡ 0) ⊎ (times b (taken_in d.effects) ≢ 0)
          → (n.hand b ≡ w.hand b) ⊎ (n.hand b ≡ world.NoBlock)
      hand_left b d (inl e) = inl (ap (λ (f : ℕ → Hand). f b) d.hands ∙ hand_kept b d.effects w.hand e d.one)
      hand_left b d (inr ne) = inr (ap (λ (f : ℕ → Hand). f b) d.hands ∙ taken_hand b d.effects w.hand d.one ne)

      link_left : (b k : ℕ) → n.hand b ≡ world.InUse k → HasLink defers w.memory b → (d : RowStepped defers i w n)
          → (times b (taken_in d.effects) ≡ 0) ⊎ (times b (taken_in d.effects) ≢ 0) → SameLink w.memory n.memory b
      link_left b k linked has d (inl e) = (d.frames.values b e, d.frames.words b LINK e (own_is_no_list defers w.memory b LINK has.0))
      link_left b k linked has d (inr ne) =
          absurd (let none = ap (λ (f : ℕ → Hand). f b) d.hands ∙ taken_hand b d.effects w.hand d.one ne in cc (none, linked))

  both : (w v n : World T) → RootsStay w v → RootsStay v n → RootsStay w n
  both w v n a b = (
    b.0 ∙ a.0,
    (λ c r e. b.1 c r (a.1 c r e)),
    (λ c. left_then c (b.2 c) (a.2 c)),
    λ c r e has.
        let first = a.3 c r e has in
        let then = b.3 c r (a.1 c r e) (has_link_kept defers w.memory v.memory c first has) in (then.0 ∙ first.0, then.1 ∙ first.1),
  )
    where
      left_then : (c : ℕ) → (n.hand c ≡ v.hand c) ⊎ (n.hand c ≡ world.NoBlock) → (v.hand c ≡ w.hand c) ⊎ (v.hand c ≡ world.NoBlock)
          → (n.hand c ≡ w.hand c) ⊎ (n.hand c ≡ world.NoBlock)
      left_then c (inr none) was = inr none
      left_then c (inl same) (inl was) = inl (same ∙ was)
      left_then c (inl same) (inr none) = inr (same ∙ none)

  -- the world came about, and the roots are as they were
  pub rows_stay : (i : ℕ) (events : List (Event T)) → AreItsRows i events → (w n : World T) → Came defers fixed w → Runs defers fixed.batch_size events w n
      → Came defers fixed n × RootsStay w n
  rows_stay i [] own w n came runs =
      (subst (λ (x : World T). Came defers fixed x) (sym runs) came, subst (λ (x : World T). RootsStay w x) (sym runs) (refl, (λ b r e. e), (λ b. inl refl), λ b r e has. (refl, refl)))
  rows_stay i (Begin j request ∷ events) own w n came runs =
      let k = rows_stay i events own.2 runs.0 n (came_then defers fixed w runs.0 (Begin j request) came runs.1) runs.2 in
      (k.0, both w runs.0 n (begun_stays j request own.1 w runs.0 runs.1) k.1)
  rows_stay i (Step j ∷ events) own w n came runs =
      let k = rows_stay i events own.1 runs.0 n (came_then defers fixed w runs.0 (Step j) came runs.1) runs.2 in
      (k.0, both w runs.0 n (step_stays j w runs.0 came runs.1) k.1)
  rows_stay i (world.Makes a b c ∷ events) own w n came runs = absurd own
  rows_stay i (world.Drops a b ∷ events) own w n came runs = absurd own
  rows_stay i (world.Links a b c ∷ events) own w n came runs = absurd own
  rows_stay i (world.Parts a b ∷ events) own w n came runs = absurd own
  rows_stay i (world.Unlinks a b ∷ events) own w n came runs = absurd own
  rows_stay i (world.Rewrites a b c ∷ events) own w n came runs = absurd own
  rows_stay i (world.Operates a ∷ events) own w n came runs = absurd own
  rows_stay i (world.Ends a b ∷ events) own w n came runs = absurd own
  rows_stay i (world.LeavesOver a b c ∷ events) own w n came runs = absurd own
  rows_stay i (world.Relinks a b c ∷ events) own w n came runs = absurd own
  rows_stay i (world.Clears a b ∷ events) own w n came runs = absurd own
  rows_stay i (world.Chooses a ∷ events) own w n came runs = absurd own

  pub roots_still : (w n : World T) → RootsStay w n → RootsNameLinked w.memory w.hand → RootsNameLinked n.memory n.hand
  roots_still w n stay named = roots_kept w.memory n.memory w.hand n.hand stay.0 stay.1 named

  -- and what is linked is named there
  pub found_still : (w n : World T) → RootsStay w n → ((b : ℕ) → IsFound fixed w.memory b (λ k. Unit {0}) (w.hand b)) → (b : ℕ)
      → IsFound fixed n.memory b (λ k. Unit {0}) (n.hand b)
  found_still w n stay found b = elim (stay.2 b) as (λ _. IsFound fixed n.memory b (λ k. Unit {0}) (n.hand b)) [
    | inl same ↦ subst (λ (k : Hand). IsFound fixed n.memory b (λ l. Unit {0}) k) (sym same)
        (found_at fixed w.memory n.memory b (λ k. Unit {0}) (λ k. Unit {0}) stay.0 (λ k is. is) (w.hand b) (found b))
    | inr none ↦ subst (λ (k : Hand). IsFound fixed n.memory b (λ l. Unit {0}) k) (sym none) tt
  ]

  -- and chains stand as they stood
  pub chains_still : (w n : World T) → RootsStay w n → ((r : ℕ) → IsChainRoot fixed r → Chain defers w.memory w.hand r) → (r : ℕ) → IsChainRoot fixed r
      → Chain defers n.memory n.hand r
  chains_still w n stay chains r is =
      chain_kept defers w.memory n.memory w.hand n.hand r (ap (λ (l : List ℕ). slice_get l r) stay.0) (λ b e. stay.1 b r e) back (λ b e has. stay.3 b r e has) (chains r is)
    where
      back : (b : ℕ) → n.hand b ≡ world.InUse r → w.hand b ≡ world.InUse r
      back b e = elim (stay.2 b) as (λ _. w.hand b ≡ world.InUse r) [
        | inl same ↦ sym same ∙ e
        | inr none ↦ absurd (cc (none, e))
      ]
