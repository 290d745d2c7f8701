-- A call reads the word of its try.
use Rattle.std.specs.Prelude.{◌≡◌, ℕ, ◌/◌, ◌^◌, ◌<◌, Bool, true, false, Option, None, Some, IsSome}
use Rattle.std.proofs.Common.{refl, ap, sym, subst, ◌∙◌, inl, inr, arith}
use Rattle.map_rule.specs.Given.SeizeWordsMem.{Mem, value_at, word_at, Can, Took}
use Rattle.map_rule.specs.Given.SeizeWordsPlan.{Now, May, MaySee, Steps, Ends}
use Rattle.map_rule.proofs.Given.SeizeWordsOneOwner.Operations.{may_load, loaded}
use Rattle.map_rule.proofs.Given.SeizeWordsPlans.{see_if, ends_if}
use Rattle.papaya_raw.specs.Given.SeizeWorld.{World}
use Rattle.papaya_raw.specs.Given.TablesChunks.{is_incremental}
use Rattle.papaya_raw.specs.Call.{have_one_key, key_read, pair_read, word_read, word_found, probes}
use Rattle.papaya_raw.specs.CallPoints.{told}
use Rattle.papaya_raw.specs.Given.TablesFinding.{may_name}
use Rattle.map_rule.specs.Given.ResizeLookup.{names_pair}
use Rattle.papaya_raw.specs.Given.TablesTrials.{place_tried}
use Rattle.papaya_raw.specs.Given.TablesDeclared.node.Node.{Node}
use Rattle.papaya_raw.specs.Given.TablesDeclared.node.Node.TheVariants as node
use Rattle.papaya_raw.specs.Given.TablesDeclared.setting.Setting.{Setting}
use Rattle.papaya_raw.specs.declared.machines.answer.Called.{Called}
use Rattle.papaya_raw.specs.declared.machines.call.KeyCall.{KeyCall}
use Rattle.papaya_raw.specs.Given.TablesTablePlaces.{at_place}
use Rattle.map_rule.specs.Chart.{Chart}
use Rattle.map_rule.specs.Rule.{IsLawful}
use Rattle.map_rule.specs.Words.{Blocks, place_word}
use Rattle.map_rule.specs.Maps.{spot_at, spot_of, IsTrial, NoneBefore}
use Rattle.map_rule.specs.InWorld.{IsMapIn}
use Rattle.map_facts.specs.FactsCalls.{Change, Unchanged, Holding, Apart, InBlock, ByReply, holding, IsOwnPair, HasOwn, CallFacts}
use Rattle.map_rule.proofs.Words.PlacesShown.{are_stored}
use Rattle.map_rule.proofs.Words.TablesSeen.{place_there}
use Rattle.map_rule.proofs.Words.PlacesRead.{pair_seen, value_tells, byte_tells}
use Rattle.map_rule.proofs.Words.WordsSeen.{Tells}
use Rattle.map_facts.proofs.Calls.CallsOn.{Seeking, Comes}
use Rattle.map_facts.proofs.Calls.CallsFound.{told_comes}
use Rattle.map_rule.proofs.Keys.TriesSeen.{spot_inside}
use Rattle.map_facts.proofs.Calls.Makes.{CallWent, still}
use Rattle.map_rule.proofs.Given.General.{some_is as is_some_of}

module _ {K V Q : Type 0} (same : K → K → Bool) (hash : K → ℕ) (asks : Q → K → Bool) (caller : ℕ) (setting : Setting) (keys : K → Bool)
    (w : World (Node K V)) (c : Chart K) (blocks : Blocks) where
  -- the block of a call's own pair, by its word
  pub own_block : (change : Change) (own code : ℕ) → code < 2 ^ 64 → (h : IsOwnPair same hash asks w caller setting c blocks keys change own code) → own / 2048 ≡ h.block
  own_block change own code few h = let is = h.word_is in let small = h.number in omega (arith, small.1)

  pub own_value : (change : Change) (own code : ℕ) → code < 2 ^ 64 → (h : IsOwnPair same hash asks w caller setting c blocks keys change own code)
      → value_at w.memory (own / 2048) ≡ Some (node.Pair h.key h.value)
  own_value change own code few h = ap (value_at w.memory) (own_block change own code few h) ∙ h.there

module _ {K V Q : Type 0} (same : K → K → Bool) (hash : K → ℕ) (asks : Q → K → Bool) (caller : ℕ) (setting : Setting) (keys : K → Bool)
    (fits : (k : K) → hash k < 2 ^ 64)
    (w : World (Node K V)) (c : Chart K) (blocks : Blocks) (map : IsMapIn same hash setting w c blocks) (p : KeyCall K V Q)
    (s : Seeking same hash asks caller setting keys w c blocks p)
    (t j : ℕ) (trial : IsTrial c blocks p.trial p.hash t j) where
  abbrev spot : ℕ
  spot = spot_at (c.len t) p.hash j

  abbrev word : ℕ
  word = place_word hash c blocks (c.place t (spot_at (c.len t) p.hash j))

  -- the word of the try is that of the place
  pub try_there : word_at w.memory (place_tried p.trial) ≡ Some (place_word hash c blocks (c.place t (spot_at (c.len t) p.hash j)))
  try_there =
      ap (λ (i : ℕ). word_at w.memory (at_place p.trial.table i)) trial.place
      ∙ place_there hash w.memory c blocks setting.root map.map.shows p.trial.table t trial.table (spot_at (c.len t) p.hash j)
      (spot_inside (c.len t) p.hash j (map.map.rule.common.lens t trial.table.made).0)

  pair_there : may_name p.hash word ≡ true → IsSome (value_at w.memory (word / 2048))
  pair_there may =
      pair_seen same hash fits w.memory c blocks setting.root map.map.shows (are_stored same (spot_of hash) (is_incremental setting.mode) c map.map.rule.common) t spot
      trial.table.made trial.table.known p.hash may

  -- its pair may be looked at
  see_own : (loaded : Bool) → p.asked ≡ None → p.replies.key ≡ None → IsOwnPair same hash asks w caller setting c blocks keys Unchanged p.own p.hash → may_name p.hash word ≡ true
      → MaySee (value_at w.memory) (pair_read asks same loaded p word p.asked)
  see_own loaded asked key own may =
      subst (λ (a : Option Q). MaySee (value_at w.memory) (pair_read asks same loaded p word a)) (sym asked)
      (subst (λ (k : Option K). MaySee (value_at w.memory) (key_read asks same loaded p word k)) (sym key)
      (is_some_of _ _ (own_value same hash asks caller setting keys w c blocks Unchanged p.own p.hash s.code own), λ value is. (pair_there may, λ value2 is2. tt)))

  see_pair : (loaded : Bool) (x : Holding) → HasOwn same hash asks w caller setting c blocks keys Unchanged x p.asked p.replies.key p.own p.hash → may_name p.hash word ≡ true
      → MaySee (value_at w.memory) (pair_read asks same loaded p word p.asked)
  see_pair loaded InBlock (asked, key, own) may = see_own loaded asked key own may
  see_pair loaded ByReply (asked, inr (key, own)) may = see_own loaded asked key own may
  see_pair loaded ByReply (asked, inl (out, key)) may =
      subst (λ (a : Option Q). MaySee (value_at w.memory) (pair_read asks same loaded p word a)) (sym asked)
      (subst (λ (k : Option K). MaySee (value_at w.memory) (key_read asks same loaded p word k)) (sym key.key_is) (pair_there may, λ value is. tt))
  see_pair loaded Apart own may =
      subst (λ (a : Option Q). MaySee (value_at w.memory) (pair_read asks same loaded p word a)) (sym own.2) (pair_there may, λ value is. tt)

  see_word : (loaded : Bool) → MaySee (value_at w.memory) (word_read asks same loaded p word)
  see_word loaded =
      see_if (value_at w.memory) (may_name p.hash word) (pair_read asks same loaded p word p.asked) (Now (told loaded p word false))
      (see_pair loaded (holding p.replies.takes p.missing) s.own) (λ e. tt)

  pub see_read : (loaded : Bool) (found : ℕ) → found ≡ place_word hash c blocks (c.place t (spot_at (c.len t) p.hash j))
      → MaySee (value_at w.memory) (word_read asks same loaded p found)
  see_read loaded found is = subst (λ (x : ℕ). MaySee (value_at w.memory) (word_read asks same loaded p x)) (sym is) (see_word loaded)

  pub may_probes : May Can Took value_at w.memory (probes asks same p)
  may_probes =
      may_load w.memory (word_found asks same p) (place_tried p.trial) (is_some_of _ _ try_there) (λ found is. see_read true found (cc (is, try_there)))

  -- Whatever is so of where it goes on by this word, as its pair is one of the keys or not, is so of where it goes on.
  module _ (Told : KeyCall K V Q × Called (Node K V) → Type 0)
      (tells : (loaded flag : Bool) → Tells keys c.key (c.place t (spot_at (c.len t) p.hash j)) flag → Told (told loaded p (place_word hash c blocks (c.place t (spot_at (c.len t) p.hash j))) flag)) where
    own_tells : (loaded : Bool) → p.asked ≡ None → p.replies.key ≡ None → IsOwnPair same hash asks w caller setting c blocks keys Unchanged p.own p.hash
        → (end : KeyCall K V Q × Called (Node K V)) → Ends (value_at w.memory) (pair_read asks same loaded p word p.asked) end → Told end
    own_tells loaded asked key own end ends =
        let e : Ends (value_at w.memory) (key_read asks same loaded p word None) end =
        subst (λ (k : Option K). Ends (value_at w.memory) (key_read asks same loaded p word k) end) key
        (subst (λ (a : Option Q). Ends (value_at w.memory) (pair_read asks same loaded p word a) end) asked ends) in
        let there = own_value same hash asks caller setting keys w c blocks Unchanged p.own p.hash s.code own in
        let own_is : e.0 ≡ node.Pair own.key own.value = cc (there, e.1) in
        let flag : have_one_key same e.0 e.2.0 ≡ names_pair (same own.key) e.2.0 = ap (λ (x : Node K V). have_one_key same x e.2.0) own_is in
        let told_is : end ≡ told loaded p word (names_pair (same own.key) e.2.0) = e.2.2 ∙ ap (told loaded p word) flag in
        subst (λ (x : KeyCall K V Q × Called (Node K V)). Told x) (sym told_is)
        (tells loaded (names_pair (same own.key) e.2.0)
        (value_tells same hash fits w.memory c blocks setting.root map.map.shows (are_stored same (spot_of hash) (is_incremental setting.mode) c map.map.rule.common) t spot
        trial.table.made trial.table.known keys (same own.key) (λ k. sym (own.keys_are k)) e.2.0 e.2.1))

    pair_tells : (loaded : Bool) (x : Holding) → HasOwn same hash asks w caller setting c blocks keys Unchanged x p.asked p.replies.key p.own p.hash
        → (end : KeyCall K V Q × Called (Node K V)) → Ends (value_at w.memory) (pair_read asks same loaded p word p.asked) end → Told end
    pair_tells loaded InBlock (asked, key, own) end ends = own_tells loaded asked key own end ends
    pair_tells loaded ByReply (asked, inr (key, own)) end ends = own_tells loaded asked key own end ends
    pair_tells loaded ByReply (asked, inl (out, key)) end ends =
        let e : Ends (value_at w.memory) (key_read asks same loaded p word (Some key.key)) end =
        subst (λ (k : Option K). Ends (value_at w.memory) (key_read asks same loaded p word k) end) key.key_is
        (subst (λ (a : Option Q). Ends (value_at w.memory) (pair_read asks same loaded p word a) end) asked ends) in
        subst (λ (x : KeyCall K V Q × Called (Node K V)). Told x) (sym e.2)
        (tells loaded (names_pair (same key.key) e.0)
        (value_tells same hash fits w.memory c blocks setting.root map.map.shows (are_stored same (spot_of hash) (is_incremental setting.mode) c map.map.rule.common) t spot
        trial.table.made trial.table.known keys (same key.key) (λ k. sym (key.keys_are k)) e.0 e.1))
    pair_tells loaded Apart own end ends =
        let e = subst (λ (a : Option Q). Ends (value_at w.memory) (pair_read asks same loaded p word a) end) own.2 ends in
        subst (λ (x : KeyCall K V Q × Called (Node K V)). Told x) (sym e.2)
        (tells loaded (names_pair (asks own.1) e.0)
        (value_tells same hash fits w.memory c blocks setting.root map.map.shows (are_stored same (spot_of hash) (is_incremental setting.mode) c map.map.rule.common) t spot
        trial.table.made trial.table.known keys (asks own.1) own.3 e.0 e.1))

    word_tells : (loaded : Bool) (end : KeyCall K V Q × Called (Node K V)) → Ends (value_at w.memory) (word_read asks same loaded p word) end → Told end
    word_tells loaded end ends =
        elim (ends_if (value_at w.memory) (may_name p.hash word) (pair_read asks same loaded p word p.asked) (Now (told loaded p word false)) end ends)
        as (λ _. Told end) [
          | inl h ↦ pair_tells loaded (holding p.replies.takes p.missing) s.own end h.1
          | inr h ↦ subst (λ (x : KeyCall K V Q × Called (Node K V)). Told x) (sym h.1)
              (tells loaded false
              (byte_tells same hash fits w.memory c blocks setting.root map.map.shows (are_stored same (spot_of hash) (is_incremental setting.mode) c map.map.rule.common) t spot
              trial.table.made trial.table.known keys p.hash s.class h.0))
        ]

    pub read_tells : (loaded : Bool) (found : ℕ) → found ≡ place_word hash c blocks (c.place t (spot_at (c.len t) p.hash j)) → (end : KeyCall K V Q × Called (Node K V))
        → Ends (value_at w.memory) (word_read asks same loaded p found) end → Told end
    read_tells loaded found is end ends = word_tells loaded end (subst (λ (x : ℕ). Ends (value_at w.memory) (word_read asks same loaded p x) end) is ends)

    pub probes_tell : (m2 : Mem (Node K V)) (end : KeyCall K V Q × Called (Node K V)) → Steps Took value_at w.memory (probes asks same p) m2 end → (m2 ≡ w.memory) × Told end
    probes_tell m2 end steps =
        let d = loaded w.memory (word_found asks same p) (place_tried p.trial) m2 end steps in
        (d.2, read_tells true d.0 (let read = d.1 in cc (read, try_there)) end d.3)

module _ {K V Q : Type 0} (same : K → K → Bool) (hash : K → ℕ) (asks : Q → K → Bool) (caller : ℕ) (setting : Setting) (keys : K → Bool)
    (lawful : IsLawful same (spot_of hash)) (fits : (k : K) → hash k < 2 ^ 64)
    (w : World (Node K V)) (c : Chart K) (blocks : Blocks) (map : IsMapIn same hash setting w c blocks) (p : KeyCall K V Q)
    (s : Seeking same hash asks caller setting keys w c blocks p)
    (t j : ℕ) (trial : IsTrial c blocks p.trial p.hash t j) (none : NoneBefore same hash (is_incremental setting.mode) c keys t j)
    (root : is_incremental setting.mode ≡ false → t ≡ c.first) where
  comes_by : (loaded flag : Bool) → Tells keys c.key (c.place t (spot_at (c.len t) p.hash j)) flag
      → Comes same hash asks caller setting keys w c blocks (told loaded p (place_word hash c blocks (c.place t (spot_at (c.len t) p.hash j))) flag)
  comes_by loaded flag tells =
      told_comes same hash asks caller setting keys lawful fits w c blocks map p s t j trial none root (place_word hash c blocks (c.place t (spot_at (c.len t) p.hash j))) flag refl tells loaded

  -- and what is found there is so
  pub read_comes : (loaded : Bool) (found : ℕ) → found ≡ place_word hash c blocks (c.place t (spot_at (c.len t) p.hash j)) → (end : KeyCall K V Q × Called (Node K V))
      → Ends (value_at w.memory) (word_read asks same loaded p found) end → Comes same hash asks caller setting keys w c blocks end
  read_comes = read_tells same hash asks caller setting keys fits w c blocks map p s t j trial (Comes same hash asks caller setting keys w c blocks) comes_by

  pub went_probes : (change : Change) → (f : CallFacts same hash asks w caller setting c blocks keys change p) → change ≡ Unchanged
      → (m2 : Mem (Node K V)) (end : KeyCall K V Q × Called (Node K V)) → Steps Took value_at w.memory (probes asks same p) m2 end
      → CallWent same hash asks caller setting keys w c blocks map change p f m2 end
  went_probes change f unchanged m2 end steps =
      let d = probes_tell same hash asks caller setting keys fits w c blocks map p s t j trial (Comes same hash asks caller setting keys w c blocks) comes_by m2 end steps in
      still same hash asks caller setting keys w c blocks map change p f m2 d.0 end unchanged d.1
