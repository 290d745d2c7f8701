-- A seat goes down a chain within its section, and puts the block that stands below the first one at the root, in place of that.
use Rattle.std.specs.Prelude.{◌≢◌, ◌<◌, ◌==◌, Option, Some, None, IsSome, Ok, Err, slice_get, if◌then◌else◌}
use Rattle.std.proofs.Common.{◌≡◌, ℕ, zero, suc, ◌+◌, List, [], ◌∷◌, Bool, true, false, ◌⊎◌, inl, inr, refl, sym, subst, ap, ◌∙◌, arith}
use Rattle.std.proofs.lemmas.Bool.{cases_eq, ne_eqb}
use Rattle.seize_words.specs.OneMemory.Mem.{Mem, Took, word_at}
use Rattle.seize_words.specs.OneMemory.Word.{block_in}
use Rattle.seize_words.specs.OneMemory.Op.{Out, Load, Exchange, Found, Stored, Exchanged, Made as OutMade, Taken, Roomed}
use Rattle.seize_words.specs.declared.at.At.TheVariants.{Root, Word}
use Rattle.seize.specs.Law.{Unlinked}
use Rattle.seize.specs.World.{World, Hand, Unlinks, MayCut, times, with_at, with_hand, with_effect}
use Rattle.seize.specs.World as world
use Rattle.seize_acts.proofs.Given.SeizeMovesState.Held.{held_on}
use Rattle.seize_acts.proofs.Given.SeizeRuleRows.Others.{with_here, with_other}
use Rattle.seize_seats.specs.Seats.State.{State, view_of}
use Rattle.seize_views.specs.Views.Chains.{IsChainRoot, LinksTo, HoldsAllBelow, StandBelow, Chain}
use Rattle.seize_views.specs.Views.Rows.{Leads, TurnsTo, had_in, Holds}
use Rattle.seize_views.specs.Views.Stacking.{IsOnItsWay, WaysBegin, ChainsAreSeen, LinksAreSeen, LinksAreCopied}
use Rattle.seize_views.specs.Views.Told.{cut_in, told}
use Rattle.seize_views.specs.declared.view.TheConstants.{LINK}
use Rattle.seize_views.specs.declared.view.SlotView.{SlotView}
use Rattle.seize_views.specs.declared.view.SlotView.TheVariants.{Rests, Registers, Outside, Owes, Enters, Inside, Settles, Leaves, Left, Frees, Brings, Bears, Watches, Under, Joins, Defers, Busy}
use Rattle.seize_views.specs.declared.view.Has.{Has}
use Rattle.seize_views.specs.declared.view.Has.TheVariants.{Nothing, Made, Seen, Both, Cut, Walks}
use Rattle.seize_views.specs.declared.view.Fixed.{Fixed}
use Rattle.seize_views.proofs.Views.Chains.{none_links, links_once, same_blocks, stand_kept, chain_kept, chain_held, linked_beside, linked_back, here_once, apart_times, there_too}
use Rattle.seize_views.proofs.Views.Came.{since_then}
use Rattle.seize_views.proofs.Views.Guarding.{aside_on}
use Rattle.seize_views.proofs.Views.Lists.{elsewhere}
use Rattle.seize_views.proofs.Views.Moved.{hand_users, inside_of}
use Rattle.seize_views.proofs.Views.Roots.{linked_held, looks, forgets}
use Rattle.seize_views.proofs.Views.Users.{same_use, passes_then, within, users}
use Rattle.seize_views.proofs.Views.Written.{Wrote, wrote, rooted_still, roots_now, written, links_stay, any_root_can, FoundIn, found_but}
use Rattle.seize_words.proofs.General.{same_some}

-- a word that names a block says that it was unlinked
cut_is : {T : Type 0} (b word : ℕ) → block_in word ≡ b → b ≢ 0 → cut_in {T = T} word ≡ Cut b
cut_is {T} b word names some =
    let seen : Bool → Has T = λ (y : Bool). if y then Nothing else Cut (block_in word) in
    let cut : ℕ → Has T = λ (k : ℕ). Cut k in ap seen (ne_eqb (block_in word) 0 (λ z. some (sym names ∙ z))) ∙ ap cut names

-- no block stands below none
none_below : {T : Type 0} (defers : T → Option ℕ) (w : World T) (t : ℕ) → HoldsAllBelow defers w t 0
none_below defers w t zero c below = inl (sym below)
none_below defers w t (suc k) c below = absurd (none_links w.memory 0 below.0 refl below.1)

module _ {T : Type 0} (defers : T → Option ℕ) (m : Mem T) (hand : ℕ → Hand) (r : ℕ) (c : Chain defers m hand r) (b next : ℕ) (some : b ≢ 0) (first : block_in c.word ≡ b)
    (links : LinksTo m b next) where
  -- a chain whose first block is this one
  pub record Begins : Type 0 where
    pub rest : List ℕ
    pub blocks : c.blocks ≡ b ∷ rest
    pub stand : StandBelow defers m next rest

  pub begins : Begins
  begins = by c.blocks refl c.stand
    where
      by : (blocks : List ℕ) → c.blocks ≡ blocks → StandBelow defers m (block_in c.word) blocks → Begins
      by [] e stand = absurd (some (sym first ∙ stand))
      by (d ∷ rest) e stand =
          let same : d ≡ b = sym stand.0 ∙ first in
          let one : stand.2.0 ≡ next = links_once m b stand.2.0 next (subst (λ (x : ℕ). LinksTo m x stand.2.0) same stand.2.1) links in
          record { rest = rest; blocks = e ∙ ap (λ (x : ℕ). x ∷ rest) same; stand = subst (λ (x : ℕ). StandBelow defers m x rest) one stand.2.2 }

  g : Begins
  g = begins

  -- it is linked there, once, and the next one is another one, that is linked there, too
  times_at : (d : ℕ) → times d c.blocks ≡ times d (b ∷ g.rest)
  times_at d = ap (times d) g.blocks

  pub first_linked : hand b ≡ world.InUse r
  first_linked = c.linked b (subst (λ (x : ℕ). 0 < x) (sym (times_at b ∙ here_once b g.rest)) (omega arith))

  not_below : times b g.rest ≡ 0
  not_below = let one = sym (here_once b g.rest) ∙ sym (times_at b) ∙ c.once b first_linked in omega (arith, one)

  rest_linked : (d : ℕ) → 0 < times d g.rest → (d ≢ b) × (hand d ≡ world.InUse r)
  rest_linked d there = (
    λ e. let none = ap (λ (x : ℕ). times x g.rest) e ∙ not_below in omega (arith, none, there),
    c.linked d (subst (λ (x : ℕ). 0 < x) (sym (times_at d)) (there_too d b g.rest there)),
  )

  pub next_linked : (next ≡ 0) ⊎ ((next ≢ b) × (hand next ≡ world.InUse r))
  next_linked = by g.rest refl g.stand
    where
      by : (rest : List ℕ) → g.rest ≡ rest → StandBelow defers m next rest → (next ≡ 0) ⊎ ((next ≢ b) × (hand next ≡ world.InUse r))
      by [] e stand = inl stand
      by (d ∷ rest) e stand =
          let some : 0 < times next g.rest =
          subst (λ (x : ℕ). 0 < x) (sym (ap (times next) e ∙ ap (λ (x : ℕ). times next (x ∷ rest)) (sym stand.0) ∙ here_once next rest)) (omega arith) in
          inr (rest_linked next some)

  -- the chain without it, where the root names the next one
  pub put_below : (n : Mem T) (word holder : ℕ) → word_at n (Root r) ≡ Some word → block_in word ≡ next → n.blocks ≡ m.blocks
      → Chain defers n (with_at hand b (world.Cutting holder)) r
  put_below n word holder at names same = record {
    word = word;
    at = at;
    blocks = g.rest;
    stand = subst (λ (x : ℕ). StandBelow defers n x g.rest) (sym names) (stand_kept defers m n g.rest next (λ d some has. same_blocks m n d same) g.stand);
    once = λ d is. once d is (cases_eq d b);
    linked = λ d some. let k = rest_linked d some in with_other hand b d (world.Cutting holder) k.0 ∙ k.1;
  }
    where
      once : (d : ℕ) → with_at hand b (world.Cutting holder) d ≡ world.InUse r → (d ≡ b) ⊎ (d ≢ b) → times d g.rest ≡ 1
      once d is (inl same) =
          absurd (let cut : world.Cutting holder ≡ world.InUse r = sym (ap (with_at hand b (world.Cutting holder)) same ∙ with_here hand b (world.Cutting holder)) ∙ is in cc cut)
      once d is (inr ne) =
          sym (apart_times d b g.rest ne) ∙ sym (times_at d) ∙ c.once d (sym (with_other hand b d (world.Cutting holder) ne) ∙ is)

module _ {T : Type 0} (defers : T → Option ℕ) (fixed : Fixed) (s : State T (SlotView T) (World T)) (id t b : ℕ) (next : Option ℕ) (h : Holds defers fixed s)
    (at : view_of s id ≡ Some (Inside t (Walks b next))) where
  abbrev w : World T
  w = s.world

  abbrev v : SlotView T
  v = Inside t (Walks b next)

  known : HoldsAllBelow defers w t b
  known = (h.seats id v at).known.0

  -- it comes to another block
  comes : (m : Mem T) → m ≡ s.memory → (c : ℕ) → HoldsAllBelow defers w t c → (so : SlotView T → Type 0) → so (Inside t (Walks c None)) → Leads defers fixed s m id so
  comes m same c all so is = looks defers fixed s id t (Inside t) (within t) (Walks b next) h at m (Walks c None) same (all, tt) refl so is

  -- what the root of a chain names its section holds, with all that is below
  root_known : (r word : ℕ) → IsChainRoot fixed r → word_at s.memory (Root r) ≡ Some word → HoldsAllBelow defers w t (block_in word)
  root_known r word is e =
      let c = h.chains r is in
      let same : c.word ≡ word = same_some c.word word (sym c.at ∙ e) in
      chain_held defers s.memory t w (sym h.memory) c.blocks (block_in word) (subst (λ (x : ℕ). StandBelow defers s.memory (block_in x) c.blocks) same c.stand)
      (λ d some. linked_held defers fixed s t h (inside_of w t (Walks b next) (h.seats id v at).slot) d r (c.linked d some))

  sees : (r : ℕ) → IsChainRoot fixed r → (out : Out T) (m : Mem T) → Took s.memory (Load (Root r)) out m → Leads defers fixed s m id (told defers v (Load (Root r)) out)
  sees r is (Found word) m took =
      comes m took.1 (block_in word) (root_known r word is took.0) (told defers v (Load (Root r)) (Found word)) (Walks (block_in word) None, refl, refl)
  sees r is Stored m took = absurd took.0
  sees r is (Exchanged y) m took = absurd took.0
  sees r is (OutMade y) m took = absurd took.0
  sees r is (Taken y) m took = absurd took.0
  sees r is (Roomed y) m took = absurd took.0

  -- and what the link names of the block at which it is
  looks_on : (out : Out T) (m : Mem T) → Took s.memory (Load (Word b LINK)) out m → Leads defers fixed s m id (told defers v (Load (Word b LINK)) out)
  looks_on (Found word) m took =
      looks defers fixed s id t (Inside t) (within t) (Walks b next) h at m (Walks b (Some (block_in word))) took.1
      (known, (word, subst (λ (x : Mem T). word_at x (Word b LINK) ≡ Some word) h.memory took.0, refl)) refl
      (told defers v (Load (Word b LINK)) (Found word)) (Walks b (Some (block_in word)), refl, refl)
  looks_on Stored m took = absurd took.0
  looks_on (Exchanged y) m took = absurd took.0
  looks_on (OutMade y) m took = absurd took.0
  looks_on (Taken y) m took = absurd took.0
  looks_on (Roomed y) m took = absurd took.0

  link_there : b ≢ 0 → IsSome (word_at s.memory (Word b LINK))
  link_there some = elim (known zero b refl) as (λ _. IsSome (word_at s.memory (Word b LINK))) [
    | inl none ↦ absurd (some none)
    | inr is ↦ subst (λ (x : Mem T). IsSome (word_at x (Word b LINK))) (sym h.memory) is.1.1
  ]

module _ {T : Type 0} (defers : T → Option ℕ) (fixed : Fixed) (s : State T (SlotView T) (World T)) (id t b c : ℕ) (h : Holds defers fixed s)
    (at : view_of s id ≡ Some (Inside t (Walks b (Some c)))) where
  abbrev here : World T
  here = s.world

  abbrev me : SlotView T
  me = Inside t (Walks b (Some c))

  links_here : LinksTo here.memory b c
  links_here = (h.seats id me at).known.1

  -- what its link names its section holds, with all that is below
  next_known : HoldsAllBelow defers here t c
  next_known k d below = (h.seats id me at).known.0 (suc k) d (c, links_here, below)

  -- that is put at the root of a chain, in place of this one, which is unlinked
  copies : (r old word : ℕ) → b ≢ 0 → block_in old ≡ b → block_in word ≡ c → IsChainRoot fixed r → (m : Mem T) → Wrote defers fixed s id r word old m → (so : SlotView T → Type 0)
      → so (Inside t (Cut b)) → Leads defers fixed s m id so
  copies r old word some first names is m wrote so tells =
      users defers fixed s id t h (Inside t) (within t) (Walks b (Some c)) at m n (Cut b) (record {
        since = since_then defers fixed here (record here { memory = m }) n (Unlinks id b) wrote.since may;
        memory = refl;
        row = refl;
        uses = refl;
        in_hand = (id, with_here here.hand b (world.Cutting id));
        hands = λ j d y ne e q. with_other here.hand b d (world.Cutting id) (λ k. (hand_users defers here y d (h.seats j y e).known q).1 r (ap here.hand k ∙ mine));
        sole = λ j d y ne e q p. (hand_users defers here y d (h.seats j y e).known q).1 r (ap here.hand (sym (same_some b d p)) ∙ mine);
        values = λ d its some some2. wrote.values d;
        links = links_stay defers fixed s id me h at r word old m wrote;
        held = λ e d held. held_on e d (Unlinked b) here.log tt held;
        over = λ e d held. refl;
        roots = roots_now defers fixed s id me h at r word old m n.hand wrote named
            (λ d e ne f. with_other here.hand b d (world.Cutting id) (λ k. ne (same_use e r (sym f ∙ ap here.hand k ∙ mine))) ∙ f);
        rooted = rooted_still defers fixed s id me h at r word old m wrote;
        chains = λ e its. chains e its (cases_eq e r);
        passes = passes_then defers fixed s id t (record here { memory = m }) n (Unlinks id b) tt (λ j. tt) wrote.passes may;
      }) (λ d. found d (cases_eq d b)) so tells
    where
      n : World T
      n = with_effect (with_hand (record here { memory = m }) b (world.Cutting id)) (Unlinked b)

      chain : Chain defers s.memory here.hand r
      chain = h.chains r is

      top : block_in chain.word ≡ b
      top = ap block_in (same_some chain.word old (sym chain.at ∙ wrote.there)) ∙ first

      its_link : LinksTo s.memory b c
      its_link = subst (λ (x : Mem T). LinksTo x b c) (sym h.memory) links_here

      mine : here.hand b ≡ world.InUse r
      mine = first_linked defers s.memory here.hand r chain b c some top its_link

      may : MayCut id (here.hand b) × (n ≡ with_effect (with_hand (record here { memory = m }) b (world.Cutting id)) (Unlinked b))
      may = (subst (λ (k : Hand). MayCut id k) (sym mine) tt, refl)

      blocks : m.blocks ≡ s.memory.blocks
      blocks = wrote.blocks ∙ sym (ap (λ (y : Mem T). y.blocks) h.memory)

      named : (block_in word ≡ 0) ⊎ (n.hand (block_in word) ≡ world.InUse r)
      named = elim (next_linked defers s.memory here.hand r chain b c some top its_link) as (λ _. (block_in word ≡ 0) ⊎ (n.hand (block_in word) ≡ world.InUse r)) [
        | inl none ↦ inl (names ∙ none)
        | inr k ↦ inr (ap n.hand names ∙ with_other here.hand b c (world.Cutting id) k.0 ∙ k.1)
      ]

      chains : (e : ℕ) → IsChainRoot fixed e → (e ≡ r) ⊎ (e ≢ r) → Chain defers m n.hand e
      chains e its (inl same) =
          subst (λ (k : ℕ). Chain defers m n.hand k) (sym same)
          (put_below defers s.memory here.hand r chain b c some top its_link m word id (written defers fixed s id me h at r word old m wrote) names blocks)
      chains e its (inr ne) =
          chain_kept defers s.memory m here.hand n.hand e (ap (λ (l : List ℕ). slice_get l e) wrote.roots ∙ elsewhere s.memory.roots r e word ne)
          (λ d k. linked_beside here.hand b (world.Cutting id) e d (λ q. ne (same_use e r (sym q ∙ mine))) k)
          (λ d k. linked_back here.hand b (world.Cutting id) e d (λ q. cc q) k) (λ d linked has. same_blocks s.memory m d blocks) (h.chains e its)

      found : (d : ℕ) → (d ≡ b) ⊎ (d ≢ b) → FoundIn defers fixed s id me h at m (Some b) d (with_at here.hand b (world.Cutting id) d)
      found d (inl same) =
          subst (λ (k : Hand). FoundIn defers fixed s id me h at m (Some b) d k)
          (sym (ap (with_at here.hand b (world.Cutting id)) same ∙ with_here here.hand b (world.Cutting id))) (inl (ap Some (sym same)))
      found d (inr ne) =
          subst (λ (k : Hand). FoundIn defers fixed s id me h at m (Some b) d k) (sym (with_other here.hand b d (world.Cutting id) ne))
          (but (found_but defers fixed s id me h at r word old m wrote (Some b) d (λ e. absurd (cc e))))
        where
          but : FoundIn defers fixed s id me h at m (Some b) d (here.hand d) ⊎ ((block_in old ≡ d) × (here.hand d ≡ world.InUse r))
              → FoundIn defers fixed s id me h at m (Some b) d (here.hand d)
          but (inl f) = f
          but (inr was) = absurd (ne (sym was.0 ∙ first))

  exchanges : (r old word : ℕ) → b ≢ 0 → block_in old ≡ b → block_in word ≡ c → IsChainRoot fixed r → (out : Out T) (m : Mem T)
      → Took s.memory (Exchange (Root r) old word) out m → Leads defers fixed s m id (told defers me (Exchange (Root r) old word) out)
  exchanges r old word some first names is (Exchanged (Ok was)) m took =
      copies r old word some first names is m
      (wrote defers fixed s id me h at r word old m (Exchange (Root r) old word) (Exchanged (Ok was)) tt took (took.0.0 ∙ ap Some took.0.1) took.1)
      (told defers me (Exchange (Root r) old word) (Exchanged (Ok was))) (cut_in old, refl, ap (λ (x : Has T). Inside t x) (sym (cut_is b old first some)))
  exchanges r old word some first names is (Exchanged (Err now)) m took =
      comes defers fixed s id t b (Some c) h at m took.1 (block_in now) (root_known defers fixed s id t b (Some c) h at r now is took.0.0)
      (told defers me (Exchange (Root r) old word) (Exchanged (Err now))) (Walks (block_in now) None, (took.0.1, refl), refl)
  exchanges r old word some first names is (Found y) m took = absurd took.0
  exchanges r old word some first names is Stored m took = absurd took.0
  exchanges r old word some first names is (OutMade y) m took = absurd took.0
  exchanges r old word some first names is (Taken y) m took = absurd took.0
  exchanges r old word some first names is (Roomed y) m took = absurd took.0

module _ {T : Type 0} (defers : T → Option ℕ) (fixed : Fixed) (id : ℕ) where
  -- who is within a section, and has no block in its hand, comes to none of a chain
  starts : (t : ℕ) (has : Has T) → had_in has ≡ None → TurnsTo defers fixed id (Inside t has) (λ x. x ≡ Inside t (Walks 0 None))
  starts t has none s h at =
      looks defers fixed s id t (Inside t) (within t) has h at s.memory (Walks 0 None) refl (none_below defers s.world t, tt) (sym none)
      (λ x. x ≡ Inside t (Walks 0 None)) refl

  to_is : (v x u : SlotView T) → u ≡ x → TurnsTo defers fixed id v (λ y. y ≡ x) → TurnsTo defers fixed id v (λ y. y ≡ u)
  to_is v x u is turns = subst (λ (z : SlotView T). TurnsTo defers fixed id v (λ y. y ≡ z)) (sym is) turns

  goes_down : (t b c : ℕ) → TurnsTo defers fixed id (Inside t (Walks b (Some c))) (λ x. x ≡ Inside t (Walks c None))
  goes_down t b c s h at =
      comes defers fixed s id t b (Some c) h at s.memory refl c (next_known defers fixed s id t b c h at) (λ x. x ≡ Inside t (Walks c None)) refl

  turns_to_chains : TurnsTo defers fixed id Rests (λ x. x ≡ Joins None)
  turns_to_chains s h at =
      aside_on defers fixed s id Rests (Joins None) h at refl refl refl tt refl refl tt tt tt s.memory refl (λ x. x ≡ Joins None) refl

  turns : (v u : SlotView T) → IsOnItsWay v u → TurnsTo defers fixed id v (λ x. x ≡ u)
  turns Rests u is = to_is Rests (Joins None) u is turns_to_chains
  turns (Joins block) u is = absurd is
  turns (Inside t (Walks b (Some c))) u (inl is) = to_is (Inside t (Walks b (Some c))) (Inside t (Walks c None)) u is (goes_down t b c)
  turns (Inside t (Walks b (Some c))) u (inr is) = to_is (Inside t (Walks b (Some c))) (Inside t Nothing) u is (forgets defers fixed id t (Walks b (Some c)) refl)
  turns (Inside t (Walks b None)) u is = to_is (Inside t (Walks b None)) (Inside t Nothing) u is (forgets defers fixed id t (Walks b None) refl)
  turns (Inside t Nothing) u is = to_is (Inside t Nothing) (Inside t (Walks 0 None)) u is.1 (starts t Nothing refl)
  turns (Inside t (Seen b)) u is = to_is (Inside t (Seen b)) (Inside t (Walks 0 None)) u is.1 (starts t (Seen b) refl)
  turns (Inside t (Made b x)) u is = absurd is.0
  turns (Inside t (Both b x a)) u is = absurd is.0
  turns (Inside t (Cut b)) u is = absurd is.0
  turns (Registers c) u is = absurd is
  turns (Outside t) u is = absurd is
  turns (Owes t b) u is = absurd is
  turns (Enters t) u is = absurd is
  turns (Settles c why seen left) u is = absurd is
  turns (Leaves t size way) u is = absurd is
  turns (Left t size way) u is = absurd is
  turns (Frees t) u is = absurd is
  turns (Brings b x) u is = absurd is
  turns (Bears b) u is = absurd is
  turns (Watches t b) u is = absurd is
  turns (Under n t b) u is = absurd is
  turns (Defers t c) u is = absurd is
  turns (Busy t) u is = absurd is

module _ (T : Type 0) (defers : T → Option ℕ) where
  pub ways_begin : WaysBegin T defers
  ways_begin fixed id v u is = turns defers fixed id v u is

  pub chains_are_seen : ChainsAreSeen T defers
  chains_are_seen fixed t b r next is id s h at = (
    any_root_can defers fixed s id (Inside t (Walks b next)) h at r is.1,
    λ out m took. sees defers fixed s id t b next h at r is out m took,
  )

  pub links_are_seen : LinksAreSeen T defers
  links_are_seen fixed t b next some id s h at =
      (link_there defers fixed s id t b next h at some, λ out m took. looks_on defers fixed s id t b next h at out m took)

  pub links_are_copied : LinksAreCopied T defers
  links_are_copied fixed t b c r old word some first names is id s h at = (
    any_root_can defers fixed s id (Inside t (Walks b (Some c))) h at r is.1,
    λ out m took. exchanges defers fixed s id t b c h at r old word some first names is out m took,
  )
