-- How the list of a map's pairs follows a change of the map.
use Rattle.std.specs.Prelude.{◌≡◌, ◌≢◌, ℕ, suc, ◌+◌, ◌<◌, Bool, true, false, cond, List, [], ◌∷◌, ◌++◌, Some}
use Rattle.std.proofs.Common.{ap, sym, subst, ◌∙◌, arith}
use Rattle.std.proofs.lemmas.Bool.{ne_eqb}
use Rattle.seize_words.specs.OneMemory.Mem.{value_at}
use Rattle.seize.specs.World.{World}
use Rattle.map_tables.specs.Chunks.{is_incremental}
use Rattle.map_tables.specs.declared.node.Node.{Node}
use Rattle.map_tables.specs.declared.node.Node.TheVariants as node
use Rattle.map_tables.specs.declared.setting.Setting.{Setting}
use Rattle.map_measures.specs.Given.RuleChart.{Chart, put as put_at}
use Rattle.map_measures.specs.Given.RuleWords.{Blocks}
use Rattle.map_measures.specs.Given.RuleMaps.{IsPair}
use Rattle.map_measures.specs.Given.RuleInWorld.{IsMapIn}
use Rattle.map_measures.proofs.Given.RuleWorld.Hands.{current_known}
use Rattle.owner_facts.specs.Given.PointsFactsCalls.{Change, Unchanged, Stored, Replaced, Removed}
use Rattle.owner_facts.specs.Given.PointsSteps.{AreLawful}
use Rattle.owner_facts.specs.Alone.Alone.{HasChanged}
use Rattle.owner_whole.specs.Whole.Contents.{without, ContentsBelow, AreContents, HasPairFor, ContentsThen, ContentsFollow}
use Rattle.owner_whole.proofs.Whole.Contents.Answers.{present_below}
use Rattle.owner_whole.proofs.Whole.Contents.Below.{and_last, has_pair, same_key, absent_below, pairs_apart, below_stays, below_without}
use Rattle.owner_facts.proofs.Alone.Shards.PairsChanged.{put_here}

module _ {K V : Type 0} (same : K → K → Bool) (hash : K → ℕ) (lawful : AreLawful same hash) (setting : Setting) (w w2 : World (Node K V)) (c c2 : Chart K) (blocks blocks2 : Blocks)
    (map : IsMapIn same hash setting w c blocks) (map2 : IsMapIn same hash setting w2 c2 blocks2) (keys : K → Bool) (k : K) (keys_are : (j : K) → keys j ≡ same k j)
    (keeps : (o : ℕ) → o < c.stored → c2.current o ≡ true → value_at w2.memory (blocks2.pair o) ≡ value_at w.memory (blocks.pair o))
    (xs : List (K × V)) (are : AreContents w.memory c blocks xs) where
  put_there : (f : ℕ → Bool) (n o : ℕ) (v : Bool) → o ≢ n → put_at f n v o ≡ f o
  put_there f n o v ne = ap (λ (b : Bool). cond b v (f o)) (ne_eqb o n ne)

  -- one more was stored, the last
  pub record HasLast (ys : List (K × V)) : Type 0 where
    pub key : K
    pub value : V
    pub block : value_at w2.memory (blocks2.pair c.stored) ≡ Some (node.Pair key value)
    pub then : AreContents w2.memory c2 blocks2 (ys ++ ((key, value) ∷ []))

  one_more : c2.stored ≡ c.stored + 1 → c2.current c.stored ≡ true → (ys : List (K × V)) → ContentsBelow w2.memory c2 blocks2 c.stored ys → HasLast ys
  one_more stored is ys below =
      let p = has_pair same hash lawful setting w2 c2 blocks2 map2 c.stored is in
      let s : suc c.stored ≡ c2.stored = omega (arith, stored) in
      record {
        key = p.key;
        value = p.value;
        block = p.block;
        then = subst (λ (n : ℕ). ContentsBelow w2.memory c2 blocks2 n (ys ++ ((p.key, p.value) ∷ []))) s (and_last w2.memory c2 blocks2 c.stored ys p.key p.value is below p.block);
      }

  -- one pair of the class is in the list
  module _ (o : ℕ) (is : IsPair same hash (is_incremental setting.mode) c keys o) where
    of_class : same k is.1 ≡ true
    of_class = sym (keys_are is.1) ∙ is.3

    left_class : (j : K) (v : V) → value_at w.memory (blocks.pair o) ≡ Some (node.Pair j v) → same k j ≡ true
    left_class j v block =
        let key = same_key same hash lawful setting w c blocks map o j v is.0 block in
        let one : Some is.1 ≡ Some j = sym is.2 ∙ key in
        let e : is.1 ≡ j = cc one in subst (λ (x : K). same k x ≡ true) e of_class

    was_there : HasPairFor same w.memory blocks k xs o
    was_there =
        let p = has_pair same hash lawful setting w c blocks map o is.0 in
        let low = (current_known same hash setting w c blocks map.map.rule map.map.shows o is.0).0 in (
          p.key,
          p.value,
          p.block,
          present_below same hash lawful setting w c blocks map k o is.0 p.key p.value p.block (left_class p.key p.value p.block) c.stored xs are low,
        )

  -- it has left the map
  module _ (o : ℕ) (is : IsPair same hash (is_incremental setting.mode) c keys o) (out : c2.current o ≡ false) (alike : (n : ℕ) → n < c.stored → n ≢ o → c2.current n ≡ c.current n) where
    others_class : (n : ℕ) (j : K) (v : V) → n < c.stored → n ≢ o → c.current n ≡ true → value_at w.memory (blocks.pair n) ≡ Some (node.Pair j v) → same k j ≡ false
    others_class n j v low ne here block =
        pairs_apart same hash lawful setting w c blocks map k o n is.1 j is.0 here is.2 (same_key same hash lawful setting w c blocks map n j v here block) (of_class o is) (λ e. ne (sym e))

    without_it : ContentsBelow w2.memory c2 blocks2 c.stored (without same k xs)
    without_it = below_without same w.memory w2.memory c c2 blocks blocks2 k o out (left_class o is) c.stored xs alike others_class keeps are

  follow : (change : Change) → HasChanged same hash setting keys c c2 change → ContentsThen same w.memory blocks w2.memory c2 blocks2 k xs change
  follow Unchanged h =
      let s : c.stored ≡ c2.stored = (let e = h.stored in omega (arith, e)) in
      subst (λ (n : ℕ). ContentsBelow w2.memory c2 blocks2 n xs) s
      (below_stays same w.memory w2.memory c c2 blocks blocks2 c.stored xs (λ o low. ap (λ (f : ℕ → Bool). f o) h.changes) keeps are)
  follow (Stored n) h =
      let e = h.changes.0 in
      let now = h.changes.2 in
      let l = one_more h.stored (ap (λ (f : ℕ → Bool). f c.stored) now ∙ ap (λ (x : ℕ). put_at c.current x true c.stored) e ∙ put_here c.current c.stored true) xs
      (below_stays same w.memory w2.memory c c2 blocks blocks2 c.stored xs (λ o low. ap (λ (f : ℕ → Bool). f o) now ∙ put_there c.current n o true (λ z. omega (arith, z, e, low))) keeps are) in (
        absent_below same hash lawful setting w c blocks map k c.stored xs are (λ o j low here key. sym (keys_are j) ∙ h.changes.1 o j here key),
        l.key,
        l.value,
        ap (λ (x : ℕ). value_at w2.memory (blocks2.pair x)) e ∙ l.block,
        l.then,
      )
  follow (Replaced o n) h =
      let e = h.changes.0 in
      let now = h.changes.2 in
      let low_o = (current_known same hash setting w c blocks map.map.rule map.map.shows o h.changes.1.0).0 in
      let l = one_more h.stored (ap (λ (f : ℕ → Bool). f c.stored) now ∙ ap (λ (x : ℕ). put_at (put_at c.current o false) x true c.stored) e ∙ put_here (put_at c.current o false) c.stored true) (without same k xs)
      (without_it o h.changes.1
      (ap (λ (f : ℕ → Bool). f o) now ∙ put_there (put_at c.current o false) n o true (λ z. omega (arith, z, e, low_o)) ∙ put_here c.current o false)
      (λ p low ne. ap (λ (f : ℕ → Bool). f p) now ∙ put_there (put_at c.current o false) n p true (λ z. omega (arith, z, e, low)) ∙ put_there c.current o p false ne)) in
      (was_there o h.changes.1, l.key, l.value, ap (λ (x : ℕ). value_at w2.memory (blocks2.pair x)) e ∙ l.block, l.then)
  follow (Removed o) h =
      let now = h.changes.1 in
      let s : c.stored ≡ c2.stored = (let e = h.stored in omega (arith, e)) in (
        was_there o h.changes.0,
        subst (λ (n : ℕ). ContentsBelow w2.memory c2 blocks2 n (without same k xs)) s
            (without_it o h.changes.0 (ap (λ (f : ℕ → Bool). f o) now ∙ put_here c.current o false) (λ p low ne. ap (λ (f : ℕ → Bool). f p) now ∙ put_there c.current o p false ne)),
      )

pub contents_follow : {K : Type 0} (V : Type 0) (same : K → K → Bool) (hash : K → ℕ) → ContentsFollow V same hash
contents_follow V same hash lawful setting w w2 c c2 blocks blocks2 map map2 keys k keys_are change run xs are =
    follow same hash lawful setting w w2 c c2 blocks blocks2 map map2 keys k keys_are run.keeps.values xs are change run.changed
