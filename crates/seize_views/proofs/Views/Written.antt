-- A word is written at a root, and what was there is unlinked.
use Rattle.std.specs.Prelude.{◌≢◌, ◌<◌, ◌==◌, Option, Some, None, IsSome, length, slice_get, slice_set}
use Rattle.std.proofs.Common.{◌≡◌, ℕ, zero, suc, List, [], ◌∷◌, Bool, true, false, ◌⊎◌, inl, inr, refl, sym, subst, ap, ◌∙◌, arith, eqb-true}
use Rattle.std.proofs.lemmas.Bool.{cases_eq, eq-eqb}
use Rattle.seize_words.specs.OneMemory.Mem.{Mem, Took, value_at, word_at, with_word}
use Rattle.seize_words.specs.OneMemory.Word.{block_in, link_to}
use Rattle.seize_words.specs.OneMemory.Op.{Op, Out}
use Rattle.seize_words.specs.declared.at.At.TheVariants.{Root}
use Rattle.seize.specs.Law.{Unlinked}
use Rattle.seize.specs.World.{World, Hand, Operates, Unlinks, MayCut, IsOwnOp, with_at, with_hand, with_effect}
use Rattle.seize.specs.World as world
use Rattle.seize_acts.proofs.Given.SeizeMovesState.Held.{held_on}
use Rattle.seize_acts.proofs.Given.SeizeRuleRows.Others.{with_here, with_other}
use Rattle.seize_acts.proofs.Given.SeizeRuleWorld.Values.{own_op_value}
use Rattle.seize_seats.specs.Seats.State.{State, view_of}
use Rattle.seize_views.specs.Views.Chains.{all_roots, IsChainRoot, Chain}
use Rattle.seize_views.specs.Views.Rows.{Leads, hand_of, IsInSomeHand, IsFound, RootsNameLinked, Since, Holds}
use Rattle.seize_views.specs.declared.view.SlotView.{SlotView}
use Rattle.seize_views.specs.declared.view.Has.TheVariants.{Nothing, Cut}
use Rattle.seize_views.specs.declared.view.Fixed.{Fixed}
use Rattle.seize_views.proofs.Views.Lists.{there, elsewhere}
use Rattle.seize_views.proofs.Views.Moved.{hand_users, Passes, LinksStay}
use Rattle.seize_views.proofs.Views.Came.{since_one, since_then}
use Rattle.seize_views.proofs.Views.Chains.{chain_kept, same_blocks, linked_beside, linked_back, not_chain}
use Rattle.seize_views.proofs.Views.Found.{HasNow, AreFound, found_at, has_more, still_has, linked_some}
use Rattle.seize_views.proofs.Views.Users.{same_use, world_took, passes_one, passes_then, Users}
use Rattle.seize_words.proofs.General.{same_some}

-- a root is there
root_there : (l : List ℕ) (r : ℕ) → r < length l → IsSome (slice_get l r)
root_there [] r lt = absurd (omega (arith, lt))
root_there (x ∷ l) zero lt = refl
root_there (x ∷ l) (suc r) lt = root_there l r (omega (arith, lt))

length_set : (l : List ℕ) (r x : ℕ) → length (slice_set l r x) ≡ length l
length_set [] r x = refl
length_set (y ∷ l) zero x = refl
length_set (y ∷ l) (suc r) x = ap suc (length_set l r x)

-- a link names its block
pub block_of_link : (b : ℕ) → block_in (link_to b) ≡ b
block_of_link b = omega arith

module _ {T : Type 0} (defers : T → Option ℕ) (fixed : Fixed) (s : State T (SlotView T) (World T)) (id : ℕ) where
  -- a word is written at a root, in place of this one
  pub record Wrote (a word old : ℕ) (m : Mem T) : Type 0 where
    pub there : word_at s.memory (Root a) ≡ Some old
    pub roots : m.roots ≡ slice_set s.memory.roots a word
    pub since : Since defers fixed s.world (record s.world { memory = m })
    pub blocks : m.blocks ≡ s.world.memory.blocks
    pub values : (b : ℕ) → value_at m b ≡ value_at s.world.memory b
    pub passes : Passes defers fixed s id (record s.world { memory = m })

  -- the seat goes on where no block was at the root, and where one was, which is in its hand then; each other one is found as before
  pub record Cuts (began : World T) (t : ℕ) (m : Mem T) (old : ℕ) (so : SlotView T → Type 0) : Type 0 where
    pub none : (block_in old == 0) ≡ true → (n : World T) → Users defers fixed s id t m n Nothing → AreFound s id began fixed None m n.hand → Leads defers fixed s m id so
    pub cut : (block_in old == 0) ≡ false → (n : World T) → Users defers fixed s id t m n (Cut (block_in old))
        → AreFound s id began fixed (Some (block_in old)) m n.hand → Leads defers fixed s m id so

module _ {T : Type 0} (defers : T → Option ℕ) (fixed : Fixed) (s : State T (SlotView T) (World T)) (id : ℕ) (v : SlotView T) (h : Holds defers fixed s)
    (at : view_of s id ≡ Some v) where
  abbrev w : World T
  w = s.world

  pub wrote : (a word old : ℕ) (m : Mem T) (op : Op T) (out : Out T) → IsOwnOp defers w.memory op → Took s.memory op out m
      → word_at s.memory (Root a) ≡ Some old → m ≡ with_word s.memory (Root a) word → Wrote defers fixed s id a word old m
  wrote a word old m op out own took found is =
      let here : Took w.memory op out m = world_took s h.memory op out m took in
      let values : (b : ℕ) → value_at m b ≡ value_at w.memory b =
      (λ b. ap (λ (x : Mem T). value_at x b) here.1 ∙ own_op_value defers w.memory b op out own) in
      record {
        there = found;
        roots = ap (λ (x : Mem T). x.roots) is;
        since = since_one defers fixed w (record w { memory = m }) (Operates op) (out, m, own, here, refl);
        blocks = ap (λ (x : Mem T). x.blocks) is ∙ ap (λ (x : Mem T). x.blocks) h.memory;
        values = values;
        passes = passes_one defers fixed s id 0 (Operates op) (record w { memory = m }) (λ j. tt) (out, m, own, here, refl);
      }

  pub rooted_still : (a word old : ℕ) (m : Mem T) → Wrote defers fixed s id a word old m → length m.roots ≡ all_roots fixed
  rooted_still a word old m wrote = ap length wrote.roots ∙ length_set s.memory.roots a word ∙ h.rooted

  -- where a root names a block from now on, each other root is as it was
  pub roots_now : (a word old : ℕ) (m : Mem T) (hand : ℕ → Hand) → Wrote defers fixed s id a word old m
      → (block_in word ≡ 0) ⊎ (hand (block_in word) ≡ world.InUse a) → ((b c : ℕ) → c ≢ a → w.hand b ≡ world.InUse c → hand b ≡ world.InUse c) → RootsNameLinked m hand
  roots_now a word old m hand wrote named others c found e =
      by (cases_eq c a) (subst (λ (l : List ℕ). slice_get l c ≡ Some found) wrote.roots e)
    where
      by : (c ≡ a) ⊎ (c ≢ a) → slice_get (slice_set s.memory.roots a word) c ≡ Some found → (block_in found ≡ 0) ⊎ (hand (block_in found) ≡ world.InUse c)
      by (inl is) q =
          let set = subst (λ (k : ℕ). slice_get (slice_set s.memory.roots a word) k ≡ Some found) is q in
          let same : word ≡ found = same_some word found (sym (there s.memory.roots a word old wrote.there) ∙ set) in
          subst (λ (k : ℕ). (block_in found ≡ 0) ⊎ (hand (block_in found) ≡ world.InUse k)) (sym is)
          (subst (λ (k : ℕ). (block_in k ≡ 0) ⊎ (hand (block_in k) ≡ world.InUse a)) same named)
      by (inr ne) q =
          let was = h.roots c found (sym (elsewhere s.memory.roots a c word ne) ∙ q) in
          elim was as (λ _. (block_in found ≡ 0) ⊎ (hand (block_in found) ≡ world.InUse c)) [
            | inl none ↦ inl none
            | inr is ↦ inr (others (block_in found) c ne is)
          ]

  -- no root names the block that was taken from one
  pub fresh : (a word old : ℕ) (m : Mem T) → Wrote defers fixed s id a word old m → (block_in old ≡ 0) ⊎ (w.hand (block_in old) ≡ world.InUse a)
      → (block_in word ≡ 0) ⊎ (block_in word ≢ block_in old)
      → (c found : ℕ) → word_at m (Root c) ≡ Some found → (block_in found ≡ 0) ⊎ (block_in found ≢ block_in old)
  fresh a word old m wrote was new c found e = by (cases_eq c a) (subst (λ (l : List ℕ). slice_get l c ≡ Some found) wrote.roots e)
    where
      was_linked : c ≢ a → w.hand (block_in found) ≡ world.InUse c → (block_in old ≡ 0) ⊎ (w.hand (block_in old) ≡ world.InUse a)
          → (block_in found ≡ 0) ⊎ (block_in found ≢ block_in old)
      was_linked ne is (inr linked) = inr (λ q. ne (same_use c a (sym is ∙ ap w.hand q ∙ linked)))
      was_linked ne is (inl none) = elim (cases_eq (block_in found) 0) as (λ _. (block_in found ≡ 0) ⊎ (block_in found ≢ block_in old)) [
        | inl z ↦ inl z
        | inr nz ↦ inr (λ q. nz (q ∙ none))
      ]

      by : (c ≡ a) ⊎ (c ≢ a) → slice_get (slice_set s.memory.roots a word) c ≡ Some found → (block_in found ≡ 0) ⊎ (block_in found ≢ block_in old)
      by (inl is) q =
          let set = subst (λ (k : ℕ). slice_get (slice_set s.memory.roots a word) k ≡ Some found) is q in
          let same : word ≡ found = same_some word found (sym (there s.memory.roots a word old wrote.there) ∙ set) in
          subst (λ (k : ℕ). (block_in k ≡ 0) ⊎ (block_in k ≢ block_in old)) same new
      by (inr ne) q = elim (h.roots c found (sym (elsewhere s.memory.roots a c word ne) ∙ q)) as (λ _. (block_in found ≡ 0) ⊎ (block_in found ≢ block_in old)) [
        | inl none ↦ inl none
        | inr is ↦ was_linked ne is was
      ]

  pub any_root_can : (a : ℕ) → a < all_roots fixed → IsSome (word_at s.memory (Root a))
  any_root_can a lt = root_there s.memory.roots a (subst (λ (k : ℕ). a < k) (sym h.rooted) lt)

  pub root_can : (a : ℕ) → a < fixed.roots → IsSome (word_at s.memory (Root a))
  root_can a lt = any_root_can a (omega (arith, lt))

  -- the links of blocks are as they were
  pub links_stay : (a word old : ℕ) (m : Mem T) → Wrote defers fixed s id a word old m → LinksStay defers fixed s id (record w { memory = m })
  links_stay a word old m wrote b apart some = same_blocks w.memory m b wrote.blocks

  -- and so are chains, where it is a root of single blocks, and none of theirs comes or goes
  pub chains_still : (a word old : ℕ) (m : Mem T) → a < fixed.roots → Wrote defers fixed s id a word old m → (r : ℕ) → IsChainRoot fixed r → Chain defers m w.hand r
  chains_still a word old m plain wrote r is =
      chain_kept defers s.memory m w.hand w.hand r
      (ap (λ (l : List ℕ). slice_get l r) wrote.roots ∙ elsewhere s.memory.roots a r word (not_chain fixed a r plain is)) (λ b e. e) (λ b e. e)
      (λ b linked has. same_blocks s.memory m b (wrote.blocks ∙ sym (ap (λ (x : Mem T). x.blocks) h.memory))) (h.chains r is)

  -- the word that was written is at the root
  pub written : (a word old : ℕ) (m : Mem T) → Wrote defers fixed s id a word old m → word_at m (Root a) ≡ Some word
  written a word old m wrote = ap (λ (l : List ℕ). slice_get l a) wrote.roots ∙ there s.memory.roots a word old wrote.there

  -- the block is found, where the seat has this in its hand
  abbrev pub FoundIn : Mem T → Option ℕ → ℕ → Hand → Type 0
  FoundIn m o b k = IsFound fixed m b (HasNow s id h.life.began o b) k

  -- Each block is found but the one that the root has named, which the seat may have had in its hand before.
  pub found_but : (a word old : ℕ) (m : Mem T) → Wrote defers fixed s id a word old m → (o : Option ℕ) (b : ℕ) → (hand_of v ≡ Some b → o ≡ Some b)
      → FoundIn m o b (w.hand b) ⊎ ((block_in old ≡ b) × (w.hand b ≡ world.InUse a))
  found_but a word old m wrote o b still = by (w.hand b) (h.found b)
    where
      has : (k : Hand) → IsInSomeHand s h.life.began b k → HasNow s id h.life.began o b k
      has k is = still_has defers fixed s id v h at o b still k is

      at_root : (r found : ℕ) → word_at s.memory (Root r) ≡ Some found → block_in found ≡ b → (r ≡ a) ⊎ (r ≢ a)
          → FoundIn m o b (world.InUse r) ⊎ ((block_in old ≡ b) × (world.InUse r ≡ world.InUse a))
      at_root r found e is (inl same) =
          let was : old ≡ found = same_some old found (sym wrote.there ∙ ap (λ (k : ℕ). slice_get s.memory.roots k) (sym same) ∙ e) in
          inr (ap block_in was ∙ is, ap world.InUse same)
      at_root r found e is (inr ne) =
          inl (inl (found, ap (λ (l : List ℕ). slice_get l r) wrote.roots ∙ elsewhere s.memory.roots a r word ne ∙ e, is))

      by : (k : Hand) → IsFound fixed s.memory b (IsInSomeHand s h.life.began b) k → FoundIn m o b k ⊎ ((block_in old ≡ b) × (k ≡ world.InUse a))
      by world.NoBlock f = inl tt
      by (world.Making i) f = inl (has (world.Making i) f)
      by (world.InUse r) (inl f) = at_root r f.0 f.1 f.2 (cases_eq r a)
      by (world.InUse r) (inr chain) = inl (inr chain)
      by (world.Parting i) f = inl (has (world.Parting i) f)
      by (world.Cutting i) f = inl (has (world.Cutting i) f)
      by world.Handed f = inl tt
      by (world.LeftTo i) f = absurd f

  -- The block that was at the root, if there was one, goes out, and the seat goes on; `n` is the world before that, in which it is linked there, and each other
  -- one is found.
  abbrev pub GoesOut : (t a old : ℕ) → Mem T → (SlotView T → Type 0) → Type 0
  GoesOut t a old m so =
      (n : World T) → Users defers fixed s id t m n Nothing
      → RootsNameLinked m n.hand
      → ((b : ℕ) → FoundIn m None b (n.hand b) ⊎ ((block_in old ≡ b) × (b ≢ 0)))
      → ((b : ℕ) → w.hand b ≡ world.InUse a → n.hand b ≡ world.InUse a)
      → (block_in old ≡ 0) ⊎ (w.hand (block_in old) ≡ world.InUse a)
      → ((c found : ℕ) → word_at m (Root c) ≡ Some found → (block_in found ≡ 0) ⊎ (block_in found ≢ block_in old))
      → Leads defers fixed s m id so

  -- where it was none each block was found
  pub none_found : (old : ℕ) (m : Mem T) (n : World T) (b : ℕ) → (block_in old == 0) ≡ true → FoundIn m None b (n.hand b) ⊎ ((block_in old ≡ b) × (b ≢ 0))
      → FoundIn m None b (n.hand b)
  none_found old m n b e (inl f) = f
  none_found old m n b e (inr is) = absurd (is.1 (sym is.0 ∙ eqb-true (block_in old) 0 e))

  -- where it was one that is in this hand of the seat from now on
  module _ (t a old : ℕ) (m : Mem T) (n : World T) (u : Users defers fixed s id t m n Nothing) (linked : w.hand (block_in old) ≡ world.InUse a)
      (mine : n.hand (block_in old) ≡ world.InUse a) (k : Hand) (no_use : (r : ℕ) → k ≡ world.InUse r → ⊥) where
    abbrev gone : ℕ → Hand
    gone = with_at n.hand (block_in old) k

    -- it was in no hand
    not_had : (j b : ℕ) (y : SlotView T) → view_of s j ≡ Some y → hand_of y ≡ Some b → b ≡ block_in old → ⊥
    not_had j b y e q is = (hand_users defers w y b (h.seats j y e).known q).1 a (ap w.hand is ∙ linked)

    pub gone_hands : (j b : ℕ) (y : SlotView T) → j ≢ id → view_of s j ≡ Some y → hand_of y ≡ Some b → gone b ≡ w.hand b
    gone_hands j b y ne e q = with_other n.hand (block_in old) b k (not_had j b y e q) ∙ u.hands j b y ne e q

    pub gone_sole : (j b : ℕ) (y : SlotView T) → j ≢ id → view_of s j ≡ Some y → hand_of y ≡ Some b → Some (block_in old) ≡ Some b → ⊥
    gone_sole j b y ne e q p = not_had j b y e q (sym (same_some (block_in old) b p))

    pub gone_roots : RootsNameLinked m n.hand
        → ((c found : ℕ) → word_at m (Root c) ≡ Some found → (block_in found ≡ 0) ⊎ (block_in found ≢ block_in old)) → RootsNameLinked m gone
    gone_roots named fresh c found e = elim (fresh c found e) as (λ _. (block_in found ≡ 0) ⊎ (gone (block_in found) ≡ world.InUse c)) [
      | inl none ↦ inl none
      | inr ne ↦ other (named c found e) ne
    ]
      where
        other : (block_in found ≡ 0) ⊎ (n.hand (block_in found) ≡ world.InUse c) → block_in found ≢ block_in old
            → (block_in found ≡ 0) ⊎ (gone (block_in found) ≡ world.InUse c)
        other (inl none) ne = inl none
        other (inr f) ne = inr (with_other n.hand (block_in old) (block_in found) k ne ∙ f)

    pub gone_chains : a < fixed.roots → (r : ℕ) → IsChainRoot fixed r → Chain defers m gone r
    gone_chains plain r is =
        chain_kept defers m m n.hand gone r refl
        (λ b e. linked_beside n.hand (block_in old) k r b (λ its. not_chain fixed a r plain is (same_use r a (sym its ∙ mine))) e)
        (λ b e. linked_back n.hand (block_in old) k r b (no_use r) e) (λ b e has. (refl, refl)) (u.chains r is)

    pub gone_found : FoundIn m (Some (block_in old)) (block_in old) k → (b : ℕ) → (b ≡ block_in old) ⊎ (b ≢ block_in old)
        → FoundIn m None b (n.hand b) ⊎ ((block_in old ≡ b) × (b ≢ 0)) → FoundIn m (Some (block_in old)) b (gone b)
    gone_found here b (inl is) before =
        subst (λ (c : ℕ). FoundIn m (Some (block_in old)) c (gone c)) (sym is)
        (subst (λ (l : Hand). FoundIn m (Some (block_in old)) (block_in old) l) (sym (with_here n.hand (block_in old) k)) here)
    gone_found here b (inr ne) (inl f) =
        subst (λ (l : Hand). FoundIn m (Some (block_in old)) b l) (sym (with_other n.hand (block_in old) b k ne))
        (found_at fixed m m b (HasNow s id h.life.began None b) (HasNow s id h.life.began (Some (block_in old)) b) refl
        (has_more s id h.life.began None (Some (block_in old)) b (λ e. absurd (cc e))) (n.hand b) f)
    gone_found here b (inr ne) (inr is) = absurd (ne (sym is.0))

  -- it is unlinked
  pub unlinked : (t a old : ℕ) (m : Mem T) (so : SlotView T → Type 0) → a < fixed.roots → Cuts defers fixed s id h.life.began t m old so → GoesOut t a old m so
  unlinked t a old m so plain goes n u named found still was fresh = by (block_in old == 0) refl was
    where
      no_use : (r : ℕ) → world.Cutting id ≡ world.InUse r → ⊥
      no_use r e = cc e

      by : (y : Bool) → (block_in old == 0) ≡ y → (block_in old ≡ 0) ⊎ (w.hand (block_in old) ≡ world.InUse a) → Leads defers fixed s m id so
      by true e was = goes.none e n u (λ b. none_found old m n b e (found b))
      by false e (inl none) = absurd (let k = eq-eqb (block_in old) 0 none in cc (k, e))
      by false e (inr linked) =
          let mine : n.hand (block_in old) ≡ world.InUse a = still (block_in old) linked in
          let x : World T = with_effect (with_hand n (block_in old) (world.Cutting id)) (Unlinked (block_in old)) in
          goes.cut e x (record {
            since = since_then defers fixed w n x (Unlinks id (block_in old)) u.since (subst (λ (k : Hand). MayCut id k) (sym mine) tt, refl);
            memory = u.memory;
            row = u.row;
            uses = u.uses;
            in_hand = (id, with_here n.hand (block_in old) (world.Cutting id));
            hands = gone_hands t a old m n u linked mine (world.Cutting id) no_use;
            sole = gone_sole t a old m n u linked mine (world.Cutting id) no_use;
            values = u.values;
            links = u.links;
            held = λ c b held. held_on c b (Unlinked (block_in old)) n.log tt (u.held c b held);
            over = u.over;
            roots = gone_roots t a old m n u linked mine (world.Cutting id) no_use named fresh;
            rooted = u.rooted;
            chains = gone_chains t a old m n u linked mine (world.Cutting id) no_use plain;
            passes = passes_then defers fixed s id t n x (Unlinks id (block_in old)) tt (λ j. tt) u.passes
                (subst (λ (k : Hand). MayCut id k) (sym mine) tt, refl);
          }) (λ b. gone_found t a old m n u linked mine (world.Cutting id) no_use (inl refl) b (cases_eq b (block_in old)) (found b))

  -- a root is cleared
  pub clears : (t a old : ℕ) (m : Mem T) → a < fixed.roots → hand_of v ≡ None → Wrote defers fixed s id a 0 old m → (so : SlotView T → Type 0)
      → GoesOut t a old m so → Leads defers fixed s m id so
  clears t a old m plain empty wrote so out =
      let n : World T = record w { memory = m } in
      let was = h.roots a old wrote.there in
      let named : RootsNameLinked m n.hand = roots_now a 0 old m n.hand wrote (inl refl) (λ c e ne f. f) in
      out n (record {
        since = wrote.since;
        memory = refl;
        row = refl;
        uses = refl;
        in_hand = tt;
        hands = λ j c y ne e q. refl;
        sole = λ j c y ne e q p. cc p;
        values = λ c its some some2. wrote.values c;
        links = links_stay a 0 old m wrote;
        held = λ e c held. held;
        over = λ e c held. refl;
        roots = named;
        rooted = rooted_still a 0 old m wrote;
        chains = chains_still a 0 old m plain wrote;
        passes = wrote.passes;
      }) named (λ b. but_old b (found_but a 0 old m wrote None b (λ mine. absurd (cc (empty, mine))))) (λ c f. f) was
      (fresh a 0 old m wrote was (inl refl))
    where
      but_old : (b : ℕ) → FoundIn m None b (w.hand b) ⊎ ((block_in old ≡ b) × (w.hand b ≡ world.InUse a))
          → FoundIn m None b (w.hand b) ⊎ ((block_in old ≡ b) × (b ≢ 0))
      but_old b (inl f) = inl f
      but_old b (inr is) = inr (is.0, linked_some defers fixed s id v h at b a is.1)
