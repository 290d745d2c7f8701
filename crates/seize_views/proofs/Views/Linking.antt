-- A block that was made is put at a root, in place of what is there, which goes out.
use Rattle.std.specs.Prelude.{◌≢◌, ◌<◌, Option, Some, None}
use Rattle.std.proofs.Common.{◌≡◌, ℕ, Bool, false, cond, ◌⊎◌, inl, inr, refl, sym, subst, ap, ◌∙◌}
use Rattle.std.proofs.lemmas.Bool.{cases_eq, ne_eqb}
use Rattle.seize_words.specs.OneMemory.Mem.{Mem}
use Rattle.seize_words.specs.OneMemory.Word.{block_in}
use Rattle.seize.specs.Law.{Linked, is_over}
use Rattle.seize.specs.World.{World, Hand, Links, with_at, with_hand, with_effect}
use Rattle.seize.specs.World as world
use Rattle.seize_acts.proofs.Given.SeizeMovesState.Held.{held_on}
use Rattle.seize_acts.proofs.Given.SeizeRuleRows.Others.{with_here, with_other}
use Rattle.seize_acts.proofs.Given.SeizeAloneHistories.Reached.{Reached}
use Rattle.seize_seats.specs.Seats.State.{State, view_of}
use Rattle.seize_views.specs.Views.Rows.{Leads, hand_of, RootsNameLinked, Holds}
use Rattle.seize_views.specs.declared.view.SlotView.{SlotView}
use Rattle.seize_views.specs.declared.view.Fixed.{Fixed}
use Rattle.seize_views.proofs.Views.Came.{reached, since_then}
use Rattle.seize_views.proofs.Views.Chains.{chain_kept, linked_beside, linked_back, not_chain}
use Rattle.seize_views.proofs.Views.Found.{linked_some}
use Rattle.seize_views.proofs.Views.Moved.{making_not_held}
use Rattle.seize_views.proofs.Views.Users.{use_making, making_use, same_use, beside, passes_then}
use Rattle.seize_views.proofs.Views.Written.{Wrote, rooted_still, roots_now, written, links_stay, chains_still, FoundIn, found_but, fresh, GoesOut}
use Rattle.seize_words.proofs.General.{same_some}

module _ {T : Type 0} (defers : T → Option ℕ) (fixed : Fixed) (s : State T (SlotView T) (World T)) (id t : ℕ) (v : SlotView T) (h : Holds defers fixed s)
    (at : view_of s id ≡ Some v) where
  abbrev w : World T
  w = s.world

  r : Reached defers fixed.batch_size w
  r = reached defers fixed w h.came

  abbrev IsFoundIn : Mem T → Option ℕ → ℕ → Hand → Type 0
  IsFoundIn m o b k = FoundIn defers fixed s id v h at m o b k

  -- the block that was made is put at a root, by a word that links to it
  pub links : (b a i word : ℕ) → block_in word ≡ b → w.hand b ≡ world.Making i → hand_of v ≡ Some b → (old : ℕ) (m : Mem T)
      → a < fixed.roots → Wrote defers fixed s id a word old m → (so : SlotView T → Type 0) → GoesOut defers fixed s id v h at t a old m so → Leads defers fixed s m id so
  links b a i word names mine had_it old m plain wrote so out =
      let n : World T = with_effect (with_hand (record w { memory = m }) b (world.InUse a)) (Linked b a) in
      let other : (c : ℕ) (k : Hand) → (k ≡ world.Making i → ⊥) → w.hand c ≡ k → n.hand c ≡ k =
      (λ c k ne f. beside w b c (world.InUse a) k (λ e. ne (e ∙ mine)) f) in
      let was = h.roots a old wrote.there in
      let named : RootsNameLinked m n.hand =
      roots_now defers fixed s id v h at a word old m n.hand wrote (inr (ap n.hand names ∙ with_here w.hand b (world.InUse a)))
      (λ c e ne f. other c (world.InUse e) (use_making e i) f) in
      let is_new : (block_in word ≡ 0) ⊎ (block_in word ≢ block_in old) = new_block old mine was (cases_eq b 0) in
      out n (record {
        since = since_then defers fixed w (record w { memory = m }) n (Links id b a) wrote.since ((i, mine), refl);
        memory = refl;
        row = refl;
        uses = refl;
        in_hand = tt;
        hands = λ j c x ne e q. with_other w.hand b c (world.InUse a)
            (λ k. ne (h.sole j id b x v e at (q ∙ ap Some k) (had_it)));
        sole = λ j c x ne e q p. cc p;
        values = λ c its some some2. wrote.values c;
        links = links_stay defers fixed s id v h at a word old m wrote;
        held = λ e c held. held_on e c (Linked b a) w.log tt held;
        over = λ e c held. ap (λ (y : Bool). cond y false (is_over c w.log)) (ne_eqb c b (making_not_held defers fixed.batch_size w r i e b c held mine));
        roots = named;
        rooted = rooted_still defers fixed s id v h at a word old m wrote;
        chains = λ c is. chain_kept defers m m w.hand n.hand c refl
            (λ e k. linked_beside w.hand b (world.InUse a) c e (λ its. use_making c i (sym its ∙ mine)) k)
            (λ e k. linked_back w.hand b (world.InUse a) c e (λ its. not_chain fixed a c plain is (same_use c a (sym its))) k) (λ e k has. (refl, refl))
            (chains_still defers fixed s id v h at a word old m plain wrote c is);
        passes = passes_then defers fixed s id t (record w { memory = m }) n (Links id b a) tt (λ j. tt) wrote.passes ((i, mine), refl);
      }) named (λ c. found_then c (cases_eq c b)) (λ c f. other c (world.InUse a) (use_making a i) f) was (fresh defers fixed s id v h at a word old m wrote was is_new)
    where
      -- it is named there, and each other one is found but the one that was there
      found_then : (c : ℕ) → (c ≡ b) ⊎ (c ≢ b) → IsFoundIn m None c (with_at w.hand b (world.InUse a) c) ⊎ ((block_in old ≡ c) × (c ≢ 0))
      found_then c (inl is) =
          inl (subst (λ (k : Hand). IsFoundIn m None c k) (sym (ap (with_at w.hand b (world.InUse a)) is ∙ with_here w.hand b (world.InUse a)))
          (inl (word, written defers fixed s id v h at a word old m wrote, names ∙ sym is)))
      found_then c (inr ne) =
          but_old (found_but defers fixed s id v h at a word old m wrote None c
          (λ e. absurd (ne (same_some c b (sym e ∙ had_it)))))
        where
          but_old : IsFoundIn m None c (w.hand c) ⊎ ((block_in old ≡ c) × (w.hand c ≡ world.InUse a))
              → IsFoundIn m None c (with_at w.hand b (world.InUse a) c) ⊎ ((block_in old ≡ c) × (c ≢ 0))
          but_old (inl f) = inl (subst (λ (k : Hand). IsFoundIn m None c k) (sym (with_other w.hand b c (world.InUse a) ne)) f)
          but_old (inr is) = inr (is.0, linked_some defers fixed s id v h at c a is.1)

      new_block : (old : ℕ) → w.hand b ≡ world.Making i → (block_in old ≡ 0) ⊎ (w.hand (block_in old) ≡ world.InUse a) → (b ≡ 0) ⊎ (b ≢ 0)
          → (block_in word ≡ 0) ⊎ (block_in word ≢ block_in old)
      new_block old mine was (inl z) = inl (names ∙ z)
      new_block old mine (inl none) (inr nz) = inr (λ e. nz (sym names ∙ e ∙ none))
      new_block old mine (inr linked) (inr nz) = inr (λ e. making_use i a (sym mine ∙ ap w.hand (sym names ∙ e) ∙ linked))
