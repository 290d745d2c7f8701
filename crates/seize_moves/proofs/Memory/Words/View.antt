-- What the collector sees of a memory: the words that it uses, by their kind, and of each block whether it lives and may have a list.
use Rattle.std.specs.Prelude.{is_some, Option, Some, None, ◌&&◌}
use Rattle.std.proofs.Common.{◌≡◌, ℕ, Bool, true, false, cond, eqb, refl, ◌∙◌}
use Rattle.std.proofs.Math.Path.{fun_ext}
use Rattle.seize.specs.Given.SeizeWordsDeclared.at.At.{At}
use Rattle.seize.specs.Given.SeizeWordsDeclared.at.At.TheVariants.{Root, Used, Slot, Entry, Word}
use Rattle.seize.specs.Given.SeizeWordsMem.{Mem, value_at}
use Rattle.seize.specs.declared.states.TheConstants.{HEAD, BATCH, NEXT, LINK, FIRST, COUNT}
use Rattle.seize_moves.proofs.Moves.State.Ghost.{put}
use Rattle.seize_moves.proofs.Memory.Words.Named.{write, clear, words_of, Wrote, Made_one, Taken_one}

pub record View : Type 0 where
  pub heads : ℕ → ℕ  -- by slot
  pub batches : ℕ → ℕ  -- by slot
  pub nexts : ℕ → ℕ  -- by block, as the ones below
  pub links : ℕ → ℕ
  pub firsts : ℕ → ℕ
  pub counts : ℕ → ℕ
  pub own : ℕ → ℕ → ℕ  -- by block and number
  pub live : ℕ → Bool
  pub lists : ℕ → Option ℕ  -- the number of the word that a block's list begins with

-- f with v at block c and number d
abbrev pub put_own : (ℕ → ℕ → ℕ) → ℕ → ℕ → ℕ → ℕ → ℕ → ℕ
put_own f c d v b i = cond (eqb b c && eqb i d) v (f b i)

-- none of a block's own words
abbrev pub no_own : (ℕ → ℕ → ℕ) → ℕ → ℕ → ℕ → ℕ
no_own f c b i = cond (eqb b c) 0 (f b i)

module _ {T : Type 0} (defers : T → Option ℕ) where
  abbrev pub list_in : Option T → Option ℕ
  list_in None = None
  list_in (Some value) = defers value

  abbrev pub view_of : (At → ℕ) → (ℕ → Option T) → View
  view_of w value = record {
    heads = λ s. w (Slot s HEAD);
    batches = λ s. w (Slot s BATCH);
    nexts = λ b. w (Entry b NEXT);
    links = λ b. w (Entry b LINK);
    firsts = λ b. w (Entry b FIRST);
    counts = λ b. w (Entry b COUNT);
    own = λ b i. w (Word b i);
    live = λ b. is_some (value b);
    lists = λ b. list_in (value b);
  }

  abbrev pub view : Mem T → View
  view m = view_of (words_of m) (value_at m)

-- a view is its fields
fields_same : (f g : View) → g.heads ≡ f.heads → g.batches ≡ f.batches → g.nexts ≡ f.nexts → g.links ≡ f.links → g.firsts ≡ f.firsts → g.counts ≡ f.counts
    → g.own ≡ f.own → g.live ≡ f.live → g.lists ≡ f.lists → g ≡ f
fields_same f g a b c d e h k l o i =
    record { heads = a i; batches = b i; nexts = c i; links = d i; firsts = e i; counts = h i; own = k i; live = l i; lists = o i }

at_one : (w : ℕ → ℕ) (c v : ℕ) → (λ b. cond (eqb b c && true) v (w b)) ≡ put w c v
at_one w c v = fun_ext (λ b. one (eqb b c) v (w b))
  where
    one : (t : Bool) (x y : ℕ) → cond (t && true) x y ≡ cond t x y
    one true x y = refl
    one false x y = refl

at_none : (w : ℕ → ℕ) (c v : ℕ) → (λ b. cond (eqb b c && false) v (w b)) ≡ w
at_none w c v = fun_ext (λ b. one (eqb b c) v (w b))
  where
    one : (t : Bool) (x y : ℕ) → cond (t && false) x y ≡ y
    one true x y = refl
    one false x y = refl

module _ {T : Type 0} (defers : T → Option ℕ) where
  wrote_view : (m : Mem T) (at : At) (v : ℕ) (n : Mem T) → Wrote m at v n → view defers n ≡ view_of defers (write (words_of m) at v) (value_at m)
  wrote_view m at v n h i = view_of defers (h.words i) (h.values i)

  -- what is seen after a write, by the word's kind
  pub view_head : (m : Mem T) (s v : ℕ) (n : Mem T) → Wrote m (Slot s HEAD) v n
      → view defers n ≡ record (view defers m) { heads = put (λ t. words_of m (Slot t HEAD)) s v }
  view_head m s v n h = wrote_view m (Slot s HEAD) v n h ∙ fields_same _ _
      (at_one (λ t. words_of m (Slot t HEAD)) s v) (at_none (λ t. words_of m (Slot t BATCH)) s v) refl refl refl refl refl refl refl

  pub view_batch : (m : Mem T) (s v : ℕ) (n : Mem T) → Wrote m (Slot s BATCH) v n
      → view defers n ≡ record (view defers m) { batches = put (λ t. words_of m (Slot t BATCH)) s v }
  view_batch m s v n h = wrote_view m (Slot s BATCH) v n h ∙ fields_same _ _
      (at_none (λ t. words_of m (Slot t HEAD)) s v) (at_one (λ t. words_of m (Slot t BATCH)) s v) refl refl refl refl refl refl refl

  pub view_next : (m : Mem T) (c v : ℕ) (n : Mem T) → Wrote m (Entry c NEXT) v n
      → view defers n ≡ record (view defers m) { nexts = put (λ b. words_of m (Entry b NEXT)) c v }
  view_next m c v n h = wrote_view m (Entry c NEXT) v n h ∙ fields_same _ _
      refl refl (at_one (λ b. words_of m (Entry b NEXT)) c v) (at_none (λ b. words_of m (Entry b LINK)) c v)
      (at_none (λ b. words_of m (Entry b FIRST)) c v) (at_none (λ b. words_of m (Entry b COUNT)) c v) refl refl refl

  pub view_link : (m : Mem T) (c v : ℕ) (n : Mem T) → Wrote m (Entry c LINK) v n
      → view defers n ≡ record (view defers m) { links = put (λ b. words_of m (Entry b LINK)) c v }
  view_link m c v n h = wrote_view m (Entry c LINK) v n h ∙ fields_same _ _
      refl refl (at_none (λ b. words_of m (Entry b NEXT)) c v) (at_one (λ b. words_of m (Entry b LINK)) c v)
      (at_none (λ b. words_of m (Entry b FIRST)) c v) (at_none (λ b. words_of m (Entry b COUNT)) c v) refl refl refl

  pub view_first : (m : Mem T) (c v : ℕ) (n : Mem T) → Wrote m (Entry c FIRST) v n
      → view defers n ≡ record (view defers m) { firsts = put (λ b. words_of m (Entry b FIRST)) c v }
  view_first m c v n h = wrote_view m (Entry c FIRST) v n h ∙ fields_same _ _
      refl refl (at_none (λ b. words_of m (Entry b NEXT)) c v) (at_none (λ b. words_of m (Entry b LINK)) c v)
      (at_one (λ b. words_of m (Entry b FIRST)) c v) (at_none (λ b. words_of m (Entry b COUNT)) c v) refl refl refl

  pub view_count : (m : Mem T) (c v : ℕ) (n : Mem T) → Wrote m (Entry c COUNT) v n
      → view defers n ≡ record (view defers m) { counts = put (λ b. words_of m (Entry b COUNT)) c v }
  view_count m c v n h = wrote_view m (Entry c COUNT) v n h ∙ fields_same _ _
      refl refl (at_none (λ b. words_of m (Entry b NEXT)) c v) (at_none (λ b. words_of m (Entry b LINK)) c v)
      (at_none (λ b. words_of m (Entry b FIRST)) c v) (at_one (λ b. words_of m (Entry b COUNT)) c v) refl refl refl

  pub view_own : (m : Mem T) (c d v : ℕ) (n : Mem T) → Wrote m (Word c d) v n
      → view defers n ≡ record (view defers m) { own = put_own (λ b i. words_of m (Word b i)) c d v }
  view_own m c d v n h = wrote_view m (Word c d) v n h

  pub view_root : (m : Mem T) (r v : ℕ) (n : Mem T) → Wrote m (Root r) v n → view defers n ≡ view defers m
  view_root m r v n h = wrote_view m (Root r) v n h

  pub view_used : (m : Mem T) (r v : ℕ) (n : Mem T) → Wrote m (Used r) v n → view defers n ≡ view defers m
  view_used m r v n h = wrote_view m (Used r) v n h

  -- a block was made
  pub view_made : (m : Mem T) (value : T) (k b : ℕ) (n : Mem T) → Made_one m value k b n
      → view defers n ≡ record (view defers m) { live = put (λ c. is_some (value_at m c)) b true; lists = put (λ c. list_in defers (value_at m c)) b (defers value) }
  view_made m value k b n h = both ∙ fields_same _ _ refl refl refl refl refl refl refl
      (fun_ext (λ c. some (eqb c b) (value_at m c))) (fun_ext (λ c. list (eqb c b) (value_at m c)))
    where
      both : view defers n ≡ view_of defers (words_of m) (put (value_at m) b (Some value))
      both i = view_of defers (h.words i) (h.values i)

      some : (t : Bool) (o : Option T) → is_some (cond t (Some value) o) ≡ cond t true (is_some o)
      some true o = refl
      some false o = refl

      list : (t : Bool) (o : Option T) → list_in defers (cond t (Some value) o) ≡ cond t (defers value) (list_in defers o)
      list true o = refl
      list false o = refl

  -- a block was taken
  pub view_taken : (m : Mem T) (b : ℕ) (n : Mem T) → Taken_one m b n
      → view defers n ≡ record (view defers m) {
        nexts = put (λ c. words_of m (Entry c NEXT)) b 0;
        links = put (λ c. words_of m (Entry c LINK)) b 0;
        firsts = put (λ c. words_of m (Entry c FIRST)) b 0;
        counts = put (λ c. words_of m (Entry c COUNT)) b 0;
        own = no_own (λ c i. words_of m (Word c i)) b;
        live = put (λ c. is_some (value_at m c)) b false;
        lists = put (λ c. list_in defers (value_at m c)) b None;
      }
  view_taken m b n h = both ∙ fields_same _ _ refl refl refl refl refl refl refl
      (fun_ext (λ c. some (eqb c b) (value_at m c))) (fun_ext (λ c. list (eqb c b) (value_at m c)))
    where
      both : view defers n ≡ view_of defers (clear (words_of m) b) (put (value_at m) b None)
      both i = view_of defers (h.words i) (h.values i)

      some : (t : Bool) (o : Option T) → is_some (cond t None o) ≡ cond t false (is_some o)
      some true o = refl
      some false o = refl

      list : (t : Bool) (o : Option T) → list_in defers (cond t None o) ≡ cond t None (list_in defers o)
      list true o = refl
      list false o = refl
