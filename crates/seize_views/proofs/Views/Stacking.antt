-- A block is made for a chain, and put at its root, above the block that its link names.
use Rattle.std.specs.Prelude.{◌≢◌, ◌<◌, ◌==◌, Option, Some, None, IsSome, Ok, Err, length, slice_get, if◌then◌else◌}
use Rattle.std.proofs.Common.{◌≡◌, ℕ, zero, suc, ◌+◌, List, [], ◌∷◌, Bool, true, false, cond, ◌⊎◌, inl, inr, refl, sym, subst, ap, ◌∙◌, arith}
use Rattle.std.proofs.lemmas.Bool.{cases_eq, ne_eqb}
use Rattle.seize_words.specs.OneMemory.Mem.{Mem, Took, value_at, word_at}
use Rattle.seize_words.specs.OneMemory.Word.{block_in}
use Rattle.seize_words.specs.OneMemory.Op.{Op, Out, Store, Exchange, Make, Take, Found, Stored, Exchanged, Made as OutMade, Taken, Roomed}
use Rattle.seize_words.specs.declared.at.At.TheVariants.{Root, Word}
use Rattle.seize.specs.Law.{Linked, Dropped, is_over}
use Rattle.seize.specs.World.{World, Hand, Happens, Links, Operates, times, with_at, with_hand, with_effect, IsOwn}
use Rattle.seize.specs.World as world
use Rattle.seize_acts.proofs.Given.SeizeMovesState.Held.{held_on}
use Rattle.seize_acts.proofs.Given.SeizeRuleRows.Others.{with_here, with_other}
use Rattle.seize_acts.proofs.Given.SeizeRuleWorld.Values.{own_op_value}
use Rattle.seize_acts.proofs.Given.SeizeAloneHistories.Reached.{Reached}
use Rattle.seize_seats.specs.Seats.State.{State, view_of}
use Rattle.seize_views.specs.Views.Chains.{IsChainRoot, LinksTo, HasLink, Chain}
use Rattle.seize_views.specs.Views.Rows.{Leads, IsMade, Holds}
use Rattle.seize_views.specs.Views.Stacking.{JoiningAreMade, LinksAreWritten, JoiningAreTaken, JoiningArePut, JoiningAreShown}
use Rattle.seize_views.specs.Views.Told.{told}
use Rattle.seize_views.specs.declared.view.TheConstants.{LINK}
use Rattle.seize_views.specs.declared.view.SlotView.{SlotView}
use Rattle.seize_views.specs.declared.view.SlotView.TheVariants.{Rests, Joins}
use Rattle.seize_views.specs.declared.view.Has.TheVariants.{Nothing, Made}
use Rattle.seize_views.specs.declared.view.Fixed.{Fixed}
use Rattle.seize_views.proofs.Views.Blocks.{makes_with, takes_with, shown, root_words, apart_from}
use Rattle.seize_views.proofs.Views.Came.{reached, since_one, since_then}
use Rattle.seize_views.proofs.Views.Chains.{same_blocks, has_link_kept, stand_kept, chain_kept, linked_beside, linked_back, here_once, apart_times}
use Rattle.seize_views.proofs.Views.Found.{found_on}
use Rattle.seize_views.proofs.Views.Lists.{elsewhere}
use Rattle.seize_views.proofs.Views.Links.{made_link, stored_beside, stored_link}
use Rattle.seize_views.proofs.Views.Moved.{LinksStay, chains_stay, making_not_held}
use Rattle.seize_views.proofs.Views.Steps.{roots_kept, world_roots, world_rooted}
use Rattle.seize_views.proofs.Views.Users.{use_making, same_use, beside, world_took, passes_one, passes_then, users_on, stands}
use Rattle.seize_views.proofs.Views.Written.{Wrote, wrote, rooted_still, roots_now, written, links_stay, any_root_can, FoundIn, found_but}
use Rattle.seize_words.proofs.General.{same_some}

none_of : (n : ℕ) → (0 < n → ⊥) → n ≡ 0
none_of zero never = refl
none_of (suc n) never = absurd (never (omega arith))

module _ {T : Type 0} (defers : T → Option ℕ) (m : Mem T) (hand : ℕ → Hand) (r b : ℕ) (none : hand b ≡ world.InUse r → ⊥) (c : Chain defers m hand r) where
  -- a block that is put above the first one of a chain is the first one of the chain then
  pub put_above : (n : Mem T) (word : ℕ) → word_at n (Root r) ≡ Some word → block_in word ≡ b → HasLink defers n b → LinksTo n b (block_in c.word)
      → n.blocks ≡ m.blocks → Chain defers n (with_at hand b (world.InUse r)) r
  put_above n word at names has links same = record {
    word = word;
    at = at;
    blocks = b ∷ c.blocks;
    stand = (names, has, (block_in c.word, links, stand_kept defers m n c.blocks (block_in c.word) (λ d some has. same_blocks m n d same) c.stand));
    once = λ d is. once d is (cases_eq d b);
    linked = λ d some. linked d some (cases_eq d b);
  }
    where
      not_there : times b c.blocks ≡ 0
      not_there = none_of (times b c.blocks) (λ some. none (c.linked b some))

      once : (d : ℕ) → with_at hand b (world.InUse r) d ≡ world.InUse r → (d ≡ b) ⊎ (d ≢ b) → times d (b ∷ c.blocks) ≡ 1
      once d is (inl same) = subst (λ (x : ℕ). times x (b ∷ c.blocks) ≡ 1) (sym same) (here_once b c.blocks ∙ ap (λ (n : ℕ). 1 + n) not_there)
      once d is (inr ne) = apart_times d b c.blocks ne ∙ c.once d (sym (with_other hand b d (world.InUse r) ne) ∙ is)

      linked : (d : ℕ) → 0 < times d (b ∷ c.blocks) → (d ≡ b) ⊎ (d ≢ b) → with_at hand b (world.InUse r) d ≡ world.InUse r
      linked d some (inl same) = ap (with_at hand b (world.InUse r)) same ∙ with_here hand b (world.InUse r)
      linked d some (inr ne) = with_other hand b d (world.InUse r) ne ∙ c.linked d (subst (λ (x : ℕ). 0 < x) (apart_times d b c.blocks ne) some)

module _ {T : Type 0} (defers : T → Option ℕ) (fixed : Fixed) (s : State T (SlotView T) (World T)) (id : ℕ) (h : Holds defers fixed s) where
  abbrev w : World T
  w = s.world

  reach : Reached defers fixed.batch_size w
  reach = reached defers fixed w h.came

  -- a seat that is to make a block for a chain makes one
  makes_one : (at : view_of s id ≡ Some (Joins None)) (value : T) (words : ℕ) → world.HasListWord defers (defers value) words → LINK < words → defers value ≢ Some LINK
      → (out : Out T) (m : Mem T) → Took s.memory (Make value words) out m → Leads defers fixed s m id (told defers (Joins None) (Make value words) out)
  makes_one at value words list long own out m took =
      makes_with defers fixed s id 0 (Joins None) Nothing refl h at tt value words refl list (λ b. Made b value) (λ b. refl) (λ b n made held. made)
      (told defers (Joins None) (Make value words))
      (λ b m2 lt here u found.
      users_on defers fixed s id 0 (Joins None) (Joins (Some (b, value, 0))) h at refl refl refl tt m2 (world.made_by defers w id m2 (OutMade (Ok b))) (Made b value) u found refl
      (u.in_hand, (0, made_link w.memory m2 b value words here.0.0 here.1 long, refl), own) tt tt (told defers (Joins None) (Make value words) (OutMade (Ok b)))
      (Some (b, value, 0), (lt, refl), refl))
      (λ back m2 same u found.
      users_on defers fixed s id 0 (Joins None) Rests h at refl refl refl tt m2 (world.made_by defers w id m2 (OutMade (Err back))) Nothing u found refl tt tt tt
      (told defers (Joins None) (Make value words) (OutMade (Err back))) (None, (same, refl), refl)) out m took

  module _ (b : ℕ) (x : T) (a : ℕ) (at : view_of s id ≡ Some (Joins (Some (b, x, a)))) where
    abbrev v : SlotView T
    v = Joins (Some (b, x, a))

    made : IsMade w b x
    made = (h.seats id v at).known.0

    links_to : LinksTo w.memory b a
    links_to = (h.seats id v at).known.1

    own : IsOwn defers w.memory (Word b LINK)
    own = (x, made.1, (h.seats id v at).known.2)

    -- it takes it away again
    takes_it : (out : Out T) (m : Mem T) → Took s.memory (Take b) out m → Leads defers fixed s m id (told defers v (Take b) out)
    takes_it out m took =
        takes_with defers fixed s id 0 v (Made b x) refl h at made b x made refl Nothing refl (λ n held. tt) (told defers v (Take b))
        (λ value m2 same u found.
        users_on defers fixed s id 0 v Rests h at refl refl refl tt m2
        (with_effect (with_hand (record w { memory = m2 }) b world.NoBlock) (Dropped b)) Nothing u found refl tt tt tt (told defers v (Take b) (Taken value)) (None, (same, refl), refl))
        out m took

    -- it writes its link
    writes : (word : ℕ) (out : Out T) (m : Mem T) → Took s.memory (Store (Word b LINK) word) out m → Leads defers fixed s m id (told defers v (Store (Word b LINK) word) out)
    writes word Stored m took =
        let op : Op T = Store (Word b LINK) word in
        let n : World T = record w { memory = m } in
        let here = world_took s h.memory op Stored m took in
        let some : IsSome (word_at w.memory (Word b LINK)) = subst IsSome (sym links_to.1) refl in
        let value : (c : ℕ) → value_at m c ≡ value_at w.memory c =
        (λ c. ap (λ (y : Mem T). value_at y c) here.1 ∙ own_op_value defers w.memory c op Stored own) in
        let happens : Happens defers fixed.batch_size (Operates op) w n = (Stored, m, own, here, refl) in
        let since = since_one defers fixed w n (Operates op) happens in
        let links : LinksStay defers fixed s id n =
        (λ c apart some2. (
          value c,
          stored_beside w.memory m b word c some here.1 (apart_from defers fixed s id 0 v (Made b x) refl h at made b made.0 refl c apart),
        )) in
        let roots : m.roots ≡ w.memory.roots = ap (λ (y : Mem T). y.roots) here.1 in
        users_on defers fixed s id 0 v (Joins (Some (b, x, block_in word))) h at refl refl refl tt m n (Made b x) (record {
          since = since;
          memory = refl;
          row = refl;
          uses = refl;
          in_hand = (made.0, value b ∙ made.1);
          hands = λ j c y ne e q. refl;
          sole = λ j c y ne e q p. ne (h.sole j id c y v e at q p);
          values = λ c its some3 some4. value c;
          links = links;
          held = λ e c held. held;
          over = λ e c held. refl;
          roots = roots_kept w.memory m w.hand n.hand roots (λ c e is. is) (world_roots defers fixed s id v h at);
          rooted = ap length roots ∙ world_rooted defers fixed s id v h at;
          chains = chains_stay defers fixed s id h m n refl since links (root_words defers fixed s id 0 v (Made b x) refl h at made m roots) (λ c e is f. f) (λ c e is f. f);
          passes = passes_one defers fixed s id 0 (Operates op) n (λ j. tt) happens;
        }) (λ c. found_on defers fixed s id v h at (Some b) m (roots ∙ sym (ap (λ (y : Mem T). y.roots) h.memory)) c (λ mine. mine)) refl
        ((made.0, value b ∙ made.1), (word, stored_link w.memory m b word some here.1, refl), (h.seats id v at).known.2) tt tt (told defers v op Stored) (Some (b, x, block_in word), refl, refl)
    writes word (Found y) m took = absurd took.0
    writes word (Exchanged y) m took = absurd took.0
    writes word (OutMade y) m took = absurd took.0
    writes word (Taken y) m took = absurd took.0
    writes word (Roomed y) m took = absurd took.0

    -- it has it as it had it
    keeps : (m : Mem T) → m ≡ s.memory → (so : SlotView T → Type 0) → so v → Leads defers fixed s m id so
    keeps m same so is =
        stands defers fixed s id 0 v v h at refl refl refl tt m same (Made b x) made refl refl (h.seats id v at).known tt tt so is

    -- it puts it at the root of a chain, above the block that was the first one
    puts : (r old word : ℕ) → block_in word ≡ b → block_in old ≡ a → IsChainRoot fixed r → (m : Mem T) → Wrote defers fixed s id r word old m → (so : SlotView T → Type 0)
        → so Rests → Leads defers fixed s m id so
    puts r old word names below is m wrote so tells =
        users_on defers fixed s id 0 v Rests h at refl refl refl tt m n Nothing (record {
          since = since_then defers fixed w (record w { memory = m }) n (Links id b r) wrote.since (made.0, refl);
          memory = refl;
          row = refl;
          uses = refl;
          in_hand = tt;
          hands = λ j c y ne e q. with_other w.hand b c (world.InUse r) (λ k. ne (h.sole j id b y v e at (q ∙ ap Some k) refl));
          sole = λ j c y ne e q p. cc p;
          values = λ c its some some2. wrote.values c;
          links = links_stay defers fixed s id v h at r word old m wrote;
          held = λ e c held. held_on e c (Linked b r) w.log tt held;
          over = λ e c held. ap (λ (y : Bool). cond y false (is_over c w.log))
              (ne_eqb c b (making_not_held defers fixed.batch_size w reach made.0.0 e b c held made.0.1));
          roots = roots_now defers fixed s id v h at r word old m n.hand wrote (inr (ap n.hand names ∙ with_here w.hand b (world.InUse r)))
              (λ c e ne f. beside w b c (world.InUse r) (world.InUse e) (λ k. use_making e made.0.0 (k ∙ made.0.1)) f);
          rooted = rooted_still defers fixed s id v h at r word old m wrote;
          chains = λ e its. chains e its (cases_eq e r);
          passes = passes_then defers fixed s id 0 (record w { memory = m }) n (Links id b r) tt (λ j. tt) wrote.passes (made.0, refl);
        }) (λ c. found c (cases_eq c b)) refl tt tt tt so tells
      where
        n : World T
        n = with_effect (with_hand (record w { memory = m }) b (world.InUse r)) (Linked b r)

        not_linked : (e : ℕ) → w.hand b ≡ world.InUse e → ⊥
        not_linked e linked = use_making e made.0.0 (sym linked ∙ made.0.1)

        blocks : m.blocks ≡ s.memory.blocks
        blocks = wrote.blocks ∙ sym (ap (λ (y : Mem T). y.blocks) h.memory)

        chains : (e : ℕ) → IsChainRoot fixed e → (e ≡ r) ⊎ (e ≢ r) → Chain defers m n.hand e
        chains e its (inl same) =
            let c = h.chains r is in
            let first : block_in c.word ≡ a = ap block_in (same_some c.word old (sym c.at ∙ wrote.there)) ∙ below in
            let mine = same_blocks w.memory m b wrote.blocks in
            let has : HasLink defers w.memory b = (own, subst IsSome (sym links_to.1) refl) in
            subst (λ (k : ℕ). Chain defers m n.hand k) (sym same)
            (put_above defers s.memory w.hand r b (not_linked r) c m word (written defers fixed s id v h at r word old m wrote) names
            (has_link_kept defers w.memory m b mine has) (links_to.0, mine.1 ∙ links_to.1, links_to.2 ∙ sym first) blocks)
        chains e its (inr ne) =
            chain_kept defers s.memory m w.hand n.hand e (ap (λ (l : List ℕ). slice_get l e) wrote.roots ∙ elsewhere s.memory.roots r e word ne)
            (λ c k. linked_beside w.hand b (world.InUse r) e c (not_linked e) k)
            (λ c k. linked_back w.hand b (world.InUse r) e c (λ q. ne (sym (same_use r e q))) k) (λ c linked has. same_blocks s.memory m c blocks) (h.chains e its)

        -- it stands in the chain, and so does the one that was there
        found : (c : ℕ) → (c ≡ b) ⊎ (c ≢ b) → FoundIn defers fixed s id v h at m None c (with_at w.hand b (world.InUse r) c)
        found c (inl same) =
            subst (λ (k : Hand). FoundIn defers fixed s id v h at m None c k) (sym (ap (with_at w.hand b (world.InUse r)) same ∙ with_here w.hand b (world.InUse r)))
            (inr is)
        found c (inr ne) =
            subst (λ (k : Hand). FoundIn defers fixed s id v h at m None c k) (sym (with_other w.hand b c (world.InUse r) ne))
            (but (found_but defers fixed s id v h at r word old m wrote None c (λ e. absurd (ne (sym (same_some b c e))))))
          where
            but : FoundIn defers fixed s id v h at m None c (w.hand c) ⊎ ((block_in old ≡ c) × (w.hand c ≡ world.InUse r))
                → FoundIn defers fixed s id v h at m None c (w.hand c)
            but (inl f) = f
            but (inr was) = subst (λ (k : Hand). FoundIn defers fixed s id v h at m None c k) (sym was.1) (inr is)

    exchanges : (r old word : ℕ) → block_in word ≡ b → block_in old ≡ a → IsChainRoot fixed r → (out : Out T) (m : Mem T) → Took s.memory (Exchange (Root r) old word) out m
        → Leads defers fixed s m id (told defers v (Exchange (Root r) old word) out)
    exchanges r old word names below is (Exchanged (Ok was)) m took =
        puts r old word names below is m
        (wrote defers fixed s id v h at r word old m (Exchange (Root r) old word) (Exchanged (Ok was)) tt took (took.0.0 ∙ ap Some took.0.1) took.1)
        (told defers v (Exchange (Root r) old word) (Exchanged (Ok was))) (None, refl, refl)
    exchanges r old word names below is (Exchanged (Err now)) m took =
        keeps m took.1 (told defers v (Exchange (Root r) old word) (Exchanged (Err now))) (Some (b, x, a), (took.0.1, refl), refl)
    exchanges r old word names below is (Found y) m took = absurd took.0
    exchanges r old word names below is Stored m took = absurd took.0
    exchanges r old word names below is (OutMade y) m took = absurd took.0
    exchanges r old word names below is (Taken y) m took = absurd took.0
    exchanges r old word names below is (Roomed y) m took = absurd took.0

module _ (T : Type 0) (defers : T → Option ℕ) where
  pub joining_are_made : JoiningAreMade T defers
  joining_are_made fixed value words list long own id s h at = (tt, λ out m took. makes_one defers fixed s id h at value words list long own out m took)

  pub links_are_written : LinksAreWritten T defers
  links_are_written fixed b x a word id s h at =
      let links = (h.seats id (Joins (Some (b, x, a))) at).known.1 in (
        subst (λ (m : Mem T). IsSome (word_at m (Word b LINK))) (sym h.memory) (subst IsSome (sym links.1) refl),
        λ out m took. writes defers fixed s id h b x a at word out m took,
      )

  there : (fixed : Fixed) (id b : ℕ) (x : T) (a : ℕ) (s : State T (SlotView T) (World T)) → Holds defers fixed s → view_of s id ≡ Some (Joins (Some (b, x, a)))
      → IsSome (value_at s.memory b)
  there fixed id b x a s h at =
      let v : SlotView T = Joins (Some (b, x, a)) in shown defers fixed s id 0 v (Made b x) refl h at (h.seats id v at).known.0 b refl

  pub joining_are_taken : JoiningAreTaken T defers
  joining_are_taken fixed b x a id s h at = (there fixed id b x a s h at, λ out m took. takes_it defers fixed s id h b x a at out m took)

  pub joining_are_put : JoiningArePut T defers
  joining_are_put fixed b x a r old word names below is id s h at = (
    any_root_can defers fixed s id (Joins (Some (b, x, a))) h at r is.1,
    λ out m took. exchanges defers fixed s id h b x a at r old word names below is out m took,
  )

  pub joining_are_shown : JoiningAreShown T defers
  joining_are_shown fixed id b x a = (
    λ s h at. there fixed id b x a s h at,
    λ y of. same_some y x (sym of.3 ∙ ap (λ (m : Mem T). value_at m b) of.1.memory ∙ (of.1.seats id (Joins (Some (b, x, a))) of.2).known.0.1),
  )
