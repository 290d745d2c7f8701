-- A block is put at a root, whatever is there or in place of a word, seen there, marked there, and taken from there.
use Rattle.std.specs.Prelude.{◌≢◌, ◌<◌, ◌^◌, ◌/◌, ◌==◌, Option, Some, None, Ok, Err, length, bit_or, if◌then◌else◌}
use Rattle.std.proofs.Common.{◌≡◌, ℕ, List, [], Bool, true, false, ◌⊎◌, inl, inr, refl, sym, subst, ap, ◌∙◌, arith}
use Rattle.std.proofs.lemmas.Bool.{eq-eqb}
use Rattle.std.proofs.lemmas.Nat.{or_shr}
use Rattle.std.specs.Int.Bits.{or_zero_r}
use Rattle.seize_words.specs.OneMemory.Mem.{Mem, Took, word_at}
use Rattle.seize_words.specs.OneMemory.Word.{block_in}
use Rattle.seize_words.specs.OneMemory.Op.{Out, Load, Swap, Or, Exchange, Found, Stored, Exchanged, Made as OutMade, Taken, Roomed}
use Rattle.seize_words.specs.declared.at.At.TheVariants.{Root}
use Rattle.seize.specs.Law.{Effect, holds, is_open, reachable, is_somewhere}
use Rattle.seize.specs.World.{World, Use, Hand, IsInside}
use Rattle.seize.specs.World as world
use Rattle.seize_acts.proofs.Given.SeizeMovesState.Ghost.{Life, IsLinked, emptied, place_of}
use Rattle.seize_acts.proofs.Given.SeizeRulePoints.Aside.{HandFits}
use Rattle.seize_acts.proofs.Given.SeizeMovesState.Logs.{reached_held}
use Rattle.seize_acts.proofs.Given.SeizeRuleRows.Teams.{UseFits}
use Rattle.seize_acts.proofs.Given.SeizeAloneHistories.Reached.{Reached}
use Rattle.seize_seats.specs.Seats.State.{State, view_of}
use Rattle.seize_views.specs.Views.Rows.{Leads, TurnsTo, had_in, hand_of, IsMade, IsInHand, RootsNameLinked, Holds}
use Rattle.seize_views.specs.Views.Told.{seen_in, cut_in, made_beside, alone_with, told}
use Rattle.seize_views.specs.Views.Promises.{MadeAreLinked, MadeAreExchanged, OwnAreLinked, OwnAreExchanged, RootsAreSeen, RootsAreMarked, RootsAreCleared, RootsAreWithdrawn}
use Rattle.seize_views.specs.declared.view.SlotView.{SlotView}
use Rattle.seize_views.specs.declared.view.SlotView.TheVariants.{Outside, Owes, Inside, Brings}
use Rattle.seize_views.specs.declared.view.Has.{Has}
use Rattle.seize_views.specs.declared.view.Has.TheVariants.{Nothing, Made, Seen, Both, Cut, Walks}
use Rattle.seize_views.specs.declared.view.Fixed.{Fixed}
use Rattle.seize_views.proofs.Views.Came.{reached}
use Rattle.seize_views.proofs.Views.Linking.{links}
use Rattle.seize_views.proofs.Views.Moved.{inside_of}
use Rattle.seize_views.proofs.Views.Users.{Carries, within, alone_carries, users, stands, users_outside, users_owe}
use Rattle.seize_views.proofs.Views.Written.{Wrote, Cuts, wrote, rooted_still, roots_now, written, links_stay, chains_still, FoundIn, found_but, root_can, GoesOut, unlinked, clears}

-- bits of the tag leave the block of a word as it is
marked_block : (word bits : ℕ) → bits < 2 ^ 11 → block_in (bit_or word bits) ≡ block_in word
marked_block word bits lt =
    let none : bits / 2 ^ 11 ≡ 0 = omega (arith, lt) in or_shr word bits 11 ∙ ap (bit_or (word / 2 ^ 11)) none ∙ or_zero_r (word / 2 ^ 11)

module _ {T : Type 0} (defers : T → Option ℕ) (fixed : Fixed) (s : State T (SlotView T) (World T)) (t : ℕ) (h : Holds defers fixed s)
    (open_here : IsInside (s.world.uses t)) where
  abbrev here : World T
  here = s.world

  sound : Reached defers fixed.batch_size here
  sound = reached defers fixed here h.came

  -- a root is seen

  is_open_here : is_open t here.log ≡ true
  is_open_here = subst (λ (l : List Effect). is_open t l ≡ true) sound.good.logged (by (here.uses t) open_here (sound.good.used.fits t))
    where
      by : (u : Use) → IsInside u
          → UseFits u (emptied (sound.good.state.head t)) (length (sound.good.used.team t)) (is_open t sound.good.state.log) → is_open t sound.good.state.log ≡ true
      by (world.Inside n) is f = f.2
      by (world.Outside n) is f = absurd is
      by world.Changing is f = absurd is
      by world.Vacant is f = absurd is

  pub linked_held : (b a : ℕ) → here.hand b ≡ world.InUse a → holds t b here.log ≡ true
  linked_held b a is =
      let life : sound.good.state.life b ≡ IsLinked = subst (λ (k : Hand). HandFits k (sound.good.state.life b)) is (sound.good.hands b) in
      let reach : reachable b here.log ≡ true =
      ap (reachable b) (sym sound.good.logged) ∙ ap is_somewhere (sound.good.inv.logged.reaches b)
      ∙ ap (λ (l : Life). is_somewhere (place_of sound.good.state.life l)) life in
      reached_held t b here.log reach is_open_here

  -- what a root names is held by the section from now on
  pub root_held : (a word : ℕ) → word_at s.memory (Root a) ≡ Some word → (block_in word == 0) ≡ false → holds t (block_in word) here.log ≡ true
  root_held a word e is = elim (h.roots a word e) as (λ _. holds t (block_in word) here.log ≡ true) [
    | inl none ↦ absurd (let k = eq-eqb (block_in word) 0 none in cc (k, is))
    | inr linked ↦ linked_held (block_in word) a linked
  ]

  seen_known : (a word : ℕ) → word_at s.memory (Root a) ≡ Some word → (y : Bool) → (block_in word == 0) ≡ y
      → IsInHand defers here t (if y then Nothing else Seen (block_in word))
  seen_known a word e true is = tt
  seen_known a word e false is = root_held a word e is

  -- where its word was written over, too
  marked_known : (a word : ℕ) (m : Mem T) → word_at s.memory (Root a) ≡ Some word → (y : Bool) → (block_in word == 0) ≡ y
      → IsInHand defers (record here { memory = m }) t (if y then Nothing else Seen (block_in word))
  marked_known a word m e true is = tt
  marked_known a word m e false is = root_held a word e is

  -- and is known beside a block that was made
  beside_known : (b : ℕ) (x : T) (a word : ℕ) → IsMade here b x → word_at s.memory (Root a) ≡ Some word → (y : Bool) → (block_in word == 0) ≡ y
      → IsInHand defers here t (if y then Made b x else Both b x (block_in word))
  beside_known b x a word made e true is = made
  beside_known b x a word made e false is = (made, root_held a word e is)

-- what is in the hand of who has seen what is there, or has made a block beside it

seen_hand : (T : Type 0) (b : ℕ) (y : Bool) → had_in {T = T} (if y then Nothing else Seen b) ≡ None
seen_hand T b true = refl
seen_hand T b false = refl

-- bits of the tag of the word at a root are set
module _ {T : Type 0} (defers : T → Option ℕ) (fixed : Fixed) (s : State T (SlotView T) (World T)) (id : ℕ) (v : SlotView T) (h : Holds defers fixed s)
    (at : view_of s id ≡ Some v) (a bits word : ℕ) (m : Mem T) (small : bits < 2 ^ 11) (took : Took s.memory (Or (Root a) bits) (Found word) m) where
  abbrev marked_word : ℕ
  marked_word = bit_or word bits

  pub marked : Wrote defers fixed s id a marked_word word m
  marked = wrote defers fixed s id v h at a marked_word word m (Or (Root a) bits) (Found word) tt took took.0 took.1

  same_named : (block_in word ≡ 0) ⊎ (s.world.hand (block_in word) ≡ world.InUse a)
      → (block_in marked_word ≡ 0) ⊎ (s.world.hand (block_in marked_word) ≡ world.InUse a)
  same_named (inl none) = inl (marked_block word bits small ∙ none)
  same_named (inr linked) = inr (ap s.world.hand (marked_block word bits small) ∙ linked)

  -- it names the block that it has named
  pub marked_named : RootsNameLinked m s.world.hand
  marked_named = roots_now defers fixed s id v h at a marked_word word m s.world.hand marked (same_named (h.roots a word took.0)) (λ c e ne f. f)

  -- and each block is found as before
  pub marked_found : (o : Option ℕ) (b : ℕ) → (hand_of v ≡ Some b → o ≡ Some b) → FoundIn defers fixed s id v h at m o b (s.world.hand b)
  marked_found o b still = by (found_but defers fixed s id v h at a marked_word word m marked o b still)
    where
      by : FoundIn defers fixed s id v h at m o b (s.world.hand b) ⊎ ((block_in word ≡ b) × (s.world.hand b ≡ world.InUse a))
          → FoundIn defers fixed s id v h at m o b (s.world.hand b)
      by (inl f) = f
      by (inr is) =
          subst (λ (k : Hand). FoundIn defers fixed s id v h at m o b k) (sym is.1)
          (inl (marked_word, written defers fixed s id v h at a marked_word word m marked, marked_block word bits small ∙ is.0))

module _ {T : Type 0} (defers : T → Option ℕ) (fixed : Fixed) (s : State T (SlotView T) (World T)) (id t : ℕ) (place : Has T → SlotView T) (carries : Carries t place)
    (had : Has T) (h : Holds defers fixed s) (at : view_of s id ≡ Some (place had)) where
  abbrev w : World T
  w = s.world

  -- what is known of blocks changes, and nothing else
  pub looks : (m : Mem T) (has : Has T) → m ≡ s.memory → IsInHand defers w t has → had_in has ≡ had_in had → (so : SlotView T → Type 0) → so (place has)
      → Leads defers fixed s m id so
  looks m has same known still so is =
      stands defers fixed s id t (place had) (place has) h at (carries.rests had) (carries.rests has) (carries.stays has had) (carries.short has) m same has known
      (carries.hand had ∙ sym still) (carries.hand has) (carries.known defers w has known) (carries.own w id has) (carries.bounded defers fixed w id has) so is

  -- the block that is taken from a root is in the seat's hand
  cuts : (a old : ℕ) (m : Mem T) (so : SlotView T → Type 0) → so (place (cut_in old)) → Cuts defers fixed s id h.life.began t m old so
  cuts a old m so is = record {
    none = λ e n u found. users defers fixed s id t h place carries had at m n Nothing u found so (at_view true e);
    cut = λ e n u found. users defers fixed s id t h place carries had at m n (Cut (block_in old)) u found so (at_view false e);
  }
    where
      at_view : (y : Bool) → (block_in old == 0) ≡ y → so (place (if y then Nothing else Cut (block_in old)))
      at_view y e = subst (λ (z : Bool). so (place (if z then Nothing else Cut (block_in old)))) e is

  out_of : (a old : ℕ) (m : Mem T) → a < fixed.roots → (so : SlotView T → Type 0) → so (place (cut_in old)) → GoesOut defers fixed s id (place had) h at t a old m so
  out_of a old m plain so is = unlinked defers fixed s id (place had) h at t a old m so plain (cuts a old m so is)

  -- the block that was made is put at a root in place of this word, or what is there is seen
  exchanges : (b : ℕ) (x : T) (a old link : ℕ) → a < fixed.roots → block_in link ≡ b → IsMade w b x → had_in had ≡ Some b → (so : Out T → SlotView T → Type 0)
      → so (Exchanged (Ok old)) (place (cut_in old))
      → ((word : ℕ) → word_at s.memory (Root a) ≡ Some word → word ≢ old
      → (has : Has T) × IsInHand defers w t has × (had_in has ≡ had_in had) × so (Exchanged (Err word)) (place has))
      → (out : Out T) (m : Mem T) → Took s.memory (Exchange (Root a) old link) out m → Leads defers fixed s m id (so out)
  exchanges b x a old link plain names made had_it so cut other (Exchanged (Ok word)) m took =
      subst (λ (k : ℕ). Leads defers fixed s m id (so (Exchanged (Ok k)))) (sym took.0.1)
      (links defers fixed s id t (place had) h at b a made.0.0 link names made.0.1 (carries.hand had ∙ had_it) old m plain
      (wrote defers fixed s id (place had) h at a link old m (Exchange (Root a) old link) (Exchanged (Ok word)) tt took (took.0.0 ∙ ap Some took.0.1) took.1)
      (so (Exchanged (Ok old))) (out_of a old m plain (so (Exchanged (Ok old))) cut))
  exchanges b x a old link plain names made had_it so cut other (Exchanged (Err word)) m took =
      let k = other word took.0.0 took.0.1 in looks m k.0 took.1 k.1 k.2 (so (Exchanged (Err word))) k.3
  exchanges b x a old link plain names made had_it so cut other (Found y) m took = absurd took.0
  exchanges b x a old link plain names made had_it so cut other Stored m took = absurd took.0
  exchanges b x a old link plain names made had_it so cut other (OutMade y) m took = absurd took.0
  exchanges b x a old link plain names made had_it so cut other (Taken y) m took = absurd took.0
  exchanges b x a old link plain names made had_it so cut other (Roomed y) m took = absurd took.0

  -- or whatever is there
  swaps : (b : ℕ) (x : T) (a link : ℕ) → a < fixed.roots → block_in link ≡ b → IsMade w b x → had_in had ≡ Some b → (so : Out T → SlotView T → Type 0)
      → ((old : ℕ) → so (Found old) (place (cut_in old))) → (out : Out T) (m : Mem T) → Took s.memory (Swap (Root a) link) out m
      → Leads defers fixed s m id (so out)
  swaps b x a link plain names made had_it so tells (Found old) m took =
      links defers fixed s id t (place had) h at b a made.0.0 link names made.0.1 (carries.hand had ∙ had_it) old m plain
      (wrote defers fixed s id (place had) h at a link old m (Swap (Root a) link) (Found old) tt took took.0 took.1)
      (so (Found old)) (out_of a old m plain (so (Found old)) (tells old))
  swaps b x a link plain names made had_it so tells Stored m took = absurd took.0
  swaps b x a link plain names made had_it so tells (Exchanged y) m took = absurd took.0
  swaps b x a link plain names made had_it so tells (OutMade y) m took = absurd took.0
  swaps b x a link plain names made had_it so tells (Taken y) m took = absurd took.0
  swaps b x a link plain names made had_it so tells (Roomed y) m took = absurd took.0

  -- bits of the tag of the word at a root are set, and the block that it names is seen
  marks : (a bits word : ℕ) (m : Mem T) → a < fixed.roots → bits < 2 ^ 11 → had_in had ≡ None → IsInside (w.uses t) → Took s.memory (Or (Root a) bits) (Found word) m
      → (so : SlotView T → Type 0) → so (place (seen_in word)) → Leads defers fixed s m id so
  marks a bits word m plain small none inside took so is =
      let over = marked defers fixed s id (place had) h at a bits word m small took in
      let still : had_in (seen_in word) ≡ had_in had = seen_hand T (block_in word) (block_in word == 0) ∙ sym none in
      users defers fixed s id t h place carries had at m (record w { memory = m }) (seen_in word) (record {
        since = over.since;
        memory = refl;
        row = refl;
        uses = refl;
        in_hand = marked_known defers fixed s t h inside a word m took.0 (block_in word == 0) refl;
        hands = λ j c x ne e q. refl;
        sole = λ j c x ne e q p. ne (h.sole j id c x (place had) e at q (carries.hand had ∙ sym still ∙ p));
        values = λ c its some some2. over.values c;
        links = links_stay defers fixed s id (place had) h at a (bit_or word bits) word m over;
        held = λ b c held. held;
        over = λ e c held. refl;
        roots = marked_named defers fixed s id (place had) h at a bits word m small took;
        rooted = rooted_still defers fixed s id (place had) h at a (bit_or word bits) word m over;
        chains = chains_still defers fixed s id (place had) h at a (bit_or word bits) word m plain over;
        passes = over.passes;
      }) (λ b. marked_found defers fixed s id (place had) h at a bits word m small took (had_in {T = T} (seen_in word)) b (λ e. still ∙ sym (carries.hand had) ∙ e)) so is

beside_hand : {T : Type 0} (b : ℕ) (x : T) (a : ℕ) (y : Bool) → had_in (if y then Made b x else Both b x a) ≡ Some b
beside_hand b x a true = refl
beside_hand b x a false = refl

pub beside_alone : {T : Type 0} (b : ℕ) (x : T) (a : ℕ) (y : Bool) → Brings b x ≡ alone_with (if y then Made b x else Both b x a)
beside_alone b x a true = refl
beside_alone b x a false = refl

module _ {T : Type 0} (defers : T → Option ℕ) (fixed : Fixed) (s : State T (SlotView T) (World T)) (id t : ℕ) (had : Has T) (none : had_in had ≡ None)
    (h : Holds defers fixed s) (at : view_of s id ≡ Some (Inside t had)) where
  sees : (a : ℕ) (out : Out T) (m : Mem T) → Took s.memory (Load (Root a)) out m → (so : SlotView T → Type 0)
      → ((word : ℕ) → out ≡ Found word → so (Inside t (seen_in word))) → Leads defers fixed s m id so
  sees a (Found word) m took so is =
      looks defers fixed s id t (Inside t) (within t) had h at m (seen_in word) took.1
      (seen_known defers fixed s t h (inside_of s.world t had (h.seats id (Inside t had) at).slot) a word took.0 (block_in word == 0) refl)
      (seen_hand T (block_in word) (block_in word == 0) ∙ sym none) so (is word refl)
  sees a Stored m took so is = absurd took.0
  sees a (Exchanged x) m took so is = absurd took.0
  sees a (OutMade x) m took so is = absurd took.0
  sees a (Taken x) m took so is = absurd took.0
  sees a (Roomed x) m took so is = absurd took.0

  marks_there : (a bits : ℕ) → a < fixed.roots → bits < 2 ^ 11 → (out : Out T) (m : Mem T) → Took s.memory (Or (Root a) bits) out m → (so : SlotView T → Type 0)
      → ((word : ℕ) → out ≡ Found word → so (Inside t (seen_in word))) → Leads defers fixed s m id so
  marks_there a bits plain small (Found word) m took so is =
      marks defers fixed s id t (Inside t) (within t) had h at a bits word m plain small none (inside_of s.world t had (h.seats id (Inside t had) at).slot) took so (is word refl)
  marks_there a bits plain small Stored m took so is = absurd took.0
  marks_there a bits plain small (Exchanged x) m took so is = absurd took.0
  marks_there a bits plain small (OutMade x) m took so is = absurd took.0
  marks_there a bits plain small (Taken x) m took so is = absurd took.0
  marks_there a bits plain small (Roomed x) m took so is = absurd took.0

-- within a section what was seen is let go, without an operation
pub forgets : {T : Type 0} (defers : T → Option ℕ) (fixed : Fixed) (id t : ℕ) (had : Has T) → had_in had ≡ None
    → TurnsTo defers fixed id (Inside t had) (λ x. x ≡ Inside t Nothing)
forgets {T} defers fixed id t had none s h at =
    looks defers fixed s id t (Inside t) (within t) had h at s.memory Nothing refl tt (sym none) (λ x. x ≡ Inside t Nothing) refl

module _ (T : Type 0) (defers : T → Option ℕ) where
  pub roots_are_seen : RootsAreSeen T defers
  roots_are_seen Nothing a fixed id t free lt s h at = (
    root_can defers fixed s id (Inside t Nothing) h at a lt,
    λ out m took. sees defers fixed s id t Nothing refl h at a out m took (told defers (Inside t Nothing) (Load (Root a)) out)
        (λ word e. subst (λ (o : Out T). told defers (Inside t Nothing) (Load (Root a)) o (Inside t (seen_in word))) (sym e) (seen_in word, refl, refl)),
  )
  roots_are_seen (Seen b) a fixed id t free lt s h at = (
    root_can defers fixed s id (Inside t (Seen b)) h at a lt,
    λ out m took. sees defers fixed s id t (Seen b) refl h at a out m took (told defers (Inside t (Seen b)) (Load (Root a)) out)
        (λ word e. subst (λ (o : Out T). told defers (Inside t (Seen b)) (Load (Root a)) o (Inside t (seen_in word))) (sym e) (seen_in word, refl, refl)),
  )
  roots_are_seen (Made b x) a fixed id t free lt s h at = absurd free
  roots_are_seen (Both b x c) a fixed id t free lt s h at = absurd free
  roots_are_seen (Cut b) a fixed id t free lt s h at = absurd free
  roots_are_seen (Walks b next) a fixed id t free lt s h at = absurd free

  pub roots_are_marked : RootsAreMarked T defers
  roots_are_marked Nothing a bits fixed id t free small lt s h at = (
    root_can defers fixed s id (Inside t Nothing) h at a lt,
    λ out m took. marks_there defers fixed s id t Nothing refl h at a bits lt small out m took (told defers (Inside t Nothing) (Or (Root a) bits) out)
        (λ word e. subst (λ (o : Out T). told defers (Inside t Nothing) (Or (Root a) bits) o (Inside t (seen_in word))) (sym e) (seen_in word, refl, refl)),
  )
  roots_are_marked (Seen b) a bits fixed id t free small lt s h at = (
    root_can defers fixed s id (Inside t (Seen b)) h at a lt,
    λ out m took. marks_there defers fixed s id t (Seen b) refl h at a bits lt small out m took (told defers (Inside t (Seen b)) (Or (Root a) bits) out)
        (λ word e. subst (λ (o : Out T). told defers (Inside t (Seen b)) (Or (Root a) bits) o (Inside t (seen_in word))) (sym e) (seen_in word, refl, refl)),
  )
  roots_are_marked (Made b x) a bits fixed id t free small lt s h at = absurd free
  roots_are_marked (Both b x c) a bits fixed id t free small lt s h at = absurd free
  roots_are_marked (Cut b) a bits fixed id t free small lt s h at = absurd free
  roots_are_marked (Walks b next) a bits fixed id t free small lt s h at = absurd free

  pub made_are_linked : MadeAreLinked T defers
  made_are_linked b x a word fixed id t names lt s h at = (
    root_can defers fixed s id (Inside t (Made b x)) h at a lt,
    swaps defers fixed s id t (Inside t) (within t) (Made b x) h at b x a word lt names (h.seats id (Inside t (Made b x)) at).known refl
        (told defers (Inside t (Made b x)) (Swap (Root a) word)) (λ old. (cut_in old, refl, refl)),
  )

  pub own_are_linked : OwnAreLinked T defers
  own_are_linked b x a word fixed id names lt s h at = (
    root_can defers fixed s id (Brings b x) h at a lt,
    swaps defers fixed s id 0 alone_with alone_carries (Made b x) h at b x a word lt names (h.seats id (Brings b x) at).known refl
        (told defers (Brings b x) (Swap (Root a) word)) (λ old. (cut_in old, refl, refl)),
  )

  -- within a section what is there instead is seen

  exchanged_there : (b c : ℕ) (x : T) (a old link : ℕ) → block_in link ≡ b → (fixed : Fixed) → a < fixed.roots → (id t : ℕ) (had : Has T) → had_in had ≡ Some c → c ≡ b → (s : State T (SlotView T) (World T))
      → (h : Holds defers fixed s) → view_of s id ≡ Some (Inside t had) → IsMade s.world c x → (so : Out T → SlotView T → Type 0)
      → so (Exchanged (Ok old)) (Inside t (cut_in old)) → ((word : ℕ) → word ≢ old → so (Exchanged (Err word)) (Inside t (made_beside b x (block_in word))))
      → (out : Out T) (m : Mem T) → Took s.memory (Exchange (Root a) old link) out m → Leads defers fixed s m id (so out)
  exchanged_there b c x a old link names fixed plain id t had has is s h at made so cut other =
      let made_so = subst (λ (k : ℕ). IsMade s.world k x) is made in
      exchanges defers fixed s id t (Inside t) (within t) had h at b x a old link plain names made_so (has ∙ ap Some is) so cut
      (λ word e ne. (
        made_beside b x (block_in word),
        beside_known defers fixed s t h (inside_of s.world t had (h.seats id (Inside t had) at).slot) b x a word made_so e (block_in word == 0) refl,
        beside_hand b x (block_in word) (block_in word == 0) ∙ ap Some (sym is) ∙ sym has,
        other word ne,
      ))

  pub made_are_exchanged : MadeAreExchanged T defers
  made_are_exchanged (Made c x) b a old link fixed id t is names lt s h at = (
    root_can defers fixed s id (Inside t (Made c x)) h at a lt,
    exchanged_there b c x a old link names fixed lt id t (Made c x) refl is s h at (h.seats id (Inside t (Made c x)) at).known
        (told defers (Inside t (Made c x)) (Exchange (Root a) old link)) (cut_in old, refl, refl)
        (λ word ne. (made_beside b x (block_in word), (ne, ap (λ (k : ℕ). made_beside k x (block_in word)) (sym is)), refl)),
  )
  made_are_exchanged (Both c x d) b a old link fixed id t is names lt s h at = (
    root_can defers fixed s id (Inside t (Both c x d)) h at a lt,
    exchanged_there b c x a old link names fixed lt id t (Both c x d) refl is s h at (h.seats id (Inside t (Both c x d)) at).known.0
        (told defers (Inside t (Both c x d)) (Exchange (Root a) old link)) (cut_in old, refl, refl)
        (λ word ne. (made_beside b x (block_in word), (ne, ap (λ (k : ℕ). made_beside k x (block_in word)) (sym is)), refl)),
  )
  made_are_exchanged Nothing b a old link fixed id t is names lt s h at = absurd is
  made_are_exchanged (Seen c) b a old link fixed id t is names lt s h at = absurd is
  made_are_exchanged (Cut c) b a old link fixed id t is names lt s h at = absurd is
  made_are_exchanged (Walks c next) b a old link fixed id t is names lt s h at = absurd is

  pub own_are_exchanged : OwnAreExchanged T defers
  own_are_exchanged b x a old link fixed id names lt s h at = (
    root_can defers fixed s id (Brings b x) h at a lt,
    exchanges defers fixed s id 0 alone_with alone_carries (Made b x) h at b x a old link lt names (h.seats id (Brings b x) at).known refl
        (told defers (Brings b x) (Exchange (Root a) old link)) (cut_in old, refl, refl)
        (λ word e ne. (
          Made b x,
          (h.seats id (Brings b x) at).known,
          refl,
          (made_beside b x (block_in word), (ne, refl), beside_alone b x (block_in word) (block_in word == 0)),
        )),
  )

  pub roots_are_cleared : RootsAreCleared T defers
  roots_are_cleared a fixed id t lt s h at = (root_can defers fixed s id (Inside t Nothing) h at a lt, λ out m took. by out m took)
    where
      by : (out : Out T) (m : Mem T) → Took s.memory (Swap (Root a) 0) out m
          → Leads defers fixed s m id (told defers (Inside t Nothing) (Swap (Root a) 0) out)
      by (Found old) m took =
          let so = told defers (Inside t Nothing) (Swap (Root a) 0) (Found old) in
          clears defers fixed s id (Inside t Nothing) h at t a old m lt refl
          (wrote defers fixed s id (Inside t Nothing) h at a 0 old m (Swap (Root a) 0) (Found old) tt took took.0 took.1)
          so (out_of defers fixed s id t (Inside t) (within t) Nothing h at a old m lt so (cut_in old, refl, refl))
      by Stored m took = absurd took.0
      by (Exchanged x) m took = absurd took.0
      by (OutMade x) m took = absurd took.0
      by (Taken x) m took = absurd took.0
      by (Roomed x) m took = absurd took.0

  pub roots_are_withdrawn : RootsAreWithdrawn T defers
  roots_are_withdrawn a fixed id t lt s h at = (root_can defers fixed s id (Outside t) h at a lt, λ out m took. by out m took)
    where
      owes : (old : ℕ) (m : Mem T) → Cuts defers fixed s id h.life.began t m old (told defers (Outside t) (Swap (Root a) 0) (Found old))
      owes old m = record {
        none = λ e n u found. users_outside defers fixed s id t h at m n u found (told defers (Outside t) (Swap (Root a) 0) (Found old)) (at_view true e);
        cut = λ e n u found.
            users_owe defers fixed s id t h at m n (block_in old) u found (told defers (Outside t) (Swap (Root a) 0) (Found old)) (at_view false e);
      }
        where
          at_view : (y : Bool) → (block_in old == 0) ≡ y
              → told defers (Outside t) (Swap (Root a) 0) (Found old) (if y then Outside t else Owes t (block_in old))
          at_view y e = subst (λ (z : Bool). told defers (Outside t) (Swap (Root a) 0) (Found old) (if z then Outside t else Owes t (block_in old))) e refl

      by : (out : Out T) (m : Mem T) → Took s.memory (Swap (Root a) 0) out m
          → Leads defers fixed s m id (told defers (Outside t) (Swap (Root a) 0) out)
      by (Found old) m took =
          clears defers fixed s id (Outside t) h at t a old m lt refl
          (wrote defers fixed s id (Outside t) h at a 0 old m (Swap (Root a) 0) (Found old) tt took took.0 took.1)
          (told defers (Outside t) (Swap (Root a) 0) (Found old))
          (unlinked defers fixed s id (Outside t) h at t a old m (told defers (Outside t) (Swap (Root a) 0) (Found old)) lt (owes old m))
      by Stored m took = absurd took.0
      by (Exchanged x) m took = absurd took.0
      by (OutMade x) m took = absurd took.0
      by (Taken x) m took = absurd took.0
      by (Roomed x) m took = absurd took.0
