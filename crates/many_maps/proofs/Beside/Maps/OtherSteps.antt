-- A step of a call on one map leaves each other map as it is.
use Rattle.std.specs.Prelude.{◌≡◌, ◌≢◌, ℕ, Bool, Option, Some, None}
use Rattle.std.proofs.Common.{ap, sym, subst, ◌∙◌, inl, inr}
use Rattle.many_calls.specs.Given.SeizeWordsDeclared.at.At.{At}
use Rattle.many_calls.specs.Given.SeizeWordsDeclared.at.At.TheVariants.{Root, Word}
use Rattle.many_calls.specs.Given.SeizeWordsMem.{Mem, value_at, word_at}
use Rattle.many_calls.specs.Given.SeizeLaw.{With, owner_of}
use Rattle.many_calls.specs.Given.SeizeWorld.{World, Row, Hand, NoBlock, Making, InUse, Parting, Cutting, Handed, LeftTo, Runs, IsInside, IsOnto}
use Rattle.many_calls.proofs.Given.SeizeAloneHistories.Reached.{Reached}
use Rattle.many_calls.specs.Given.TablesNodes.{deferred_word}
use Rattle.many_calls.specs.Given.TablesDeclared.node.Node.{Node}
use Rattle.many_calls.specs.Given.TablesDeclared.node.Node.TheVariants as node
use Rattle.many_calls.specs.Given.TablesDeclared.setting.Setting.{Setting}
use Rattle.many_calls.specs.Given.RuleBeside.{KeptBeside}
use Rattle.many_calls.specs.Given.RuleChart.{Chart}
use Rattle.many_calls.specs.Given.RuleWords.{Blocks}
use Rattle.many_calls.specs.Given.RuleInWorld.{IsOut, IsKnownBlock, IsIts, InFootprint, StepSpec}
use Rattle.many_calls.proofs.Given.RuleWorld.BesideKept.{steps_spare_others}
use Rattle.many_calls.specs.Kept.{IsMaking, IsKeptBy}
use Rattle.many_calls.specs.Sights.{Visible}
use Rattle.many_calls.specs.Together.{UnderWay, Together}
use Rattle.many_maps.proofs.Beside.Maps.Left.{Leaves, left_spared}
use Rattle.many_maps.proofs.Beside.Maps.Stays.{Spared}
use Rattle.many_calls.proofs.Rows.Behind.{events_back}
use Rattle.many_calls.proofs.Rows.Users.{events_hold}
use Rattle.many_calls.proofs.Together.Came.{came_reached, came_on}
use Rattle.many_calls.proofs.Together.Users.{events_rows, inside_on, inside_back, kept_on}

-- what its maker has is not out
pub making_not_out : (h : Hand) → IsMaking h → IsOut h → ⊥
making_not_out NoBlock making out = making
making_not_out (Making i) making out = out
making_not_out (InUse o) making out = making
making_not_out (Parting i) making out = making
making_not_out (Cutting i) making out = making
making_not_out Handed making out = making
making_not_out (LeftTo i) making out = making

module _ {K V Q : Type 0} (same : K → K → Bool) (hash : K → ℕ) (asks : Q → K → Bool) (setting : Setting) (slot : ℕ → ℕ)
    (w : World (Node K V)) (c : Chart K) (blocks : Blocks) (sights : ℕ → Visible) (calls : ℕ → Option (UnderWay K V Q)) (s : Together V same hash asks setting slot w c blocks sights calls) where
  -- a block of the map that may be looked at: what is there, who has it, and whose it is
  pub known_out : (b : ℕ) → IsKnownBlock c blocks b → IsOut (w.hand b)
  known_out b (inl (t, made, known, is)) = subst (λ (x : ℕ). IsOut (w.hand x)) (sym is) (s.ground.map.tables_out t made known)
  known_out b (inr (n, was, known, is)) = subst (λ (x : ℕ). IsOut (w.hand x)) (sym is) (s.ground.map.pairs_out n was known)

  pub known_owner : (b : ℕ) → IsKnownBlock c blocks b → owner_of b w.log ≡ setting.counter
  known_owner b (inl (t, made, known, is)) = ap (λ (x : ℕ). owner_of x w.log) is ∙ s.ground.owned.tables t made known
  known_owner b (inr (n, was, known, is)) = ap (λ (x : ℕ). owner_of x w.log) is ∙ s.ground.owned.pairs n was known

  pub known_there : (b : ℕ) → IsKnownBlock c blocks b → (value : Node K V) × (value_at w.memory b ≡ Some value)
  known_there b (inl (t, made, known, is)) = (_, ap (value_at w.memory) is ∙ (s.ground.map.map.shows.tables t made known).value)
  known_there b (inr (n, was, known, is)) = let p = s.ground.map.map.shows.pairs n was known in (node.Pair p.0 p.1, ap (value_at w.memory) is ∙ p.2)

module _ {K V Q : Type 0} (same : K → K → Bool) (hash : K → ℕ) (asks : Q → K → Bool) (setting : Setting) (slot : ℕ → ℕ)
    (w : World (Node K V)) (c : Chart K) (blocks : Blocks) (sights : ℕ → Visible) (calls : ℕ → Option (UnderWay K V Q)) (s : Together V same hash asks setting slot w c blocks sights calls) where
  -- a caller that has no call on the map takes a step on another one, with another root and another counter
  module _ (hash2 : K → ℕ) (other : Setting) (i : ℕ) (none : calls i ≡ None) (c2 : Chart K) (blocks2 : Blocks) (m2 : Mem (Node K V))
      (roots : setting.root ≢ other.root) (counters : setting.counter ≢ other.counter) (size : other.batch_size ≡ setting.batch_size)
      (its_counter : IsMaking (w.hand other.counter)) (its_out : (b : ℕ) → IsKnownBlock c2 blocks2 b → IsOut (w.hand b)) (its_own : (b : ℕ) → IsKnownBlock c2 blocks2 b → owner_of b w.log ≡ other.counter)
      (r : ℕ) (inside : IsInside (w.uses r))
      (went : StepSpec same hash2 other i w c2 blocks2 m2 (λ w3 c3 blocks3. Unit {0})) where
    reached : Reached deferred_word setting.batch_size w
    reached = came_reached setting.batch_size w s.ground.came

    runs : Runs deferred_word setting.batch_size went.events w went.w2
    runs = subst (λ (n : ℕ). Runs deferred_word n went.events w went.w2) size went.runs

    -- none of the map's blocks is one of the step
    not_its : (b : ℕ) → IsKnownBlock c blocks b → IsIts i w c2 blocks2 b → ⊥
    not_its b known (inl own) = subst IsOut own.0 (known_out same hash asks setting slot w c blocks sights calls s b known)
    not_its b known (inr its) = counters (sym (known_owner same hash asks setting slot w c blocks sights calls s b known) ∙ its_own b its)

    beside : (b : ℕ) → IsKnownBlock c blocks b → KeptBeside i w c2 blocks2 b w went.w2
    beside b known = let there = known_there same hash asks setting slot w c blocks sights calls s b known in steps_spare_others V same hash2 other i w c2 blocks2 m2 went b there.0 there.1 (not_its b known)

    -- nor is its counter
    counter_not_its : IsIts i w c2 blocks2 setting.counter → ⊥
    counter_not_its (inl own) = own.1 s.ground.map.counter
    counter_not_its (inr its) = making_not_out (w.hand setting.counter) s.ground.counter (its_out setting.counter its)

    counter_beside : KeptBeside i w c2 blocks2 setting.counter w went.w2
    counter_beside = steps_spare_others V same hash2 other i w c2 blocks2 m2 went setting.counter node.Shards s.ground.map.counter counter_not_its

    -- and no word of these is written
    known_word : (b : ℕ) → IsKnownBlock c blocks b → (field : ℕ) → InFootprint other i w c2 blocks2 (Word b field) → ⊥
    known_word b known field (inl its) = not_its b known (inr (inl its))
    known_word b known field (inr (inl own)) = not_its b known (inl own)
    known_word b known field (inr (inr is)) =
        making_not_out (w.hand other.counter) its_counter (subst (λ (x : ℕ). IsOut (w.hand x)) is (known_out same hash asks setting slot w c blocks sights calls s b known))

    counter_word : (field : ℕ) → InFootprint other i w c2 blocks2 (Word setting.counter field) → ⊥
    counter_word field (inl its) = counter_not_its (inr (inl its))
    counter_word field (inr (inl own)) = counter_not_its (inl own)
    counter_word field (inr (inr is)) = counters is

    word_stays : (at : At) (word : ℕ) → (InFootprint other i w c2 blocks2 at → ⊥) → word_at w.memory at ≡ Some word → word_at went.w2.memory at ≡ Some word
    word_stays at word apart is = ap (λ (m : Mem (Node K V)). word_at m at) went.memory ∙ went.frame.words at word is apart

    kept : (b : ℕ) → IsKnownBlock c blocks b → IsKeptBy w b → IsKeptBy went.w2 b
    kept b known h =
        let there = known_there same hash asks setting slot w c blocks sights calls s b known in
        kept_on setting.batch_size (λ j. r) i went.events w went.w2 reached inside went.users runs b there.0 ((beside b known).value ∙ there.1) h

    row_same : (j : ℕ) → went.w2.row j ≡ w.row j
    row_same j = ap (λ (f : ℕ → Row). f j) (events_rows setting.batch_size went.events w went.w2 went.users runs)

    left : Leaves setting w c blocks calls went.w2
    left = record {
      came = came_on setting.batch_size w went.w2 went.events s.ground.came runs;
      known = λ b known. record {
        value = (beside b known).value;
        words = λ field word is. word_stays (Word b field) word (known_word b known field) is;
        hand = (beside b known).hand;
        owner = (beside b known).owner;
        carried = λ t its at. (beside b known).place (With t) (not_its t its) at;
        kept = kept b known;
        held = λ t in_it h. events_hold setting.batch_size b t went.events w went.w2 reached in_it went.users runs h;
      };
      behind = λ t x l made. events_back deferred_word setting.batch_size x (blocks.table t) went.events w went.w2 reached went.users runs;
      onto = λ t j l made on. subst (IsOnto (blocks.table t)) (row_same j) on;
      root = λ word is. word_stays (Root setting.root) word roots is;
      counter_value = counter_beside.value;
      counter_hand = counter_beside.hand;
      counter_words = λ field word is. word_stays (Word setting.counter field) word (counter_word field) is;
      inside = λ t h. inside_on setting.batch_size (λ j. r) i went.events w went.w2 reached inside went.users runs t h;
      inside_before = λ t h. inside_back setting.batch_size (λ j. r) i went.events w went.w2 reached inside went.users runs t h;
      rows = λ j u has. row_same j;
      own = λ j u has. went.spares j (λ e. (let at : calls j ≡ None = ap calls e ∙ none in cc (at, has)));
    }

    -- the map is spared
    pub other_spared : Spared setting w c blocks calls same hash went.w2
    other_spared = left_spared same hash asks setting slot w c blocks sights calls s went.w2 left
