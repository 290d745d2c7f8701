-- The turn of the root, over one step: it grows by a promotion alone, and where the root's word stays, so does the turn.
use Rattle.std.specs.Prelude.{◌*◌, Some}
use Rattle.std.proofs.Common.{◌≡◌, ℕ, zero, suc, ◌<◌, Bool, cond, ◌⊎◌, inl, inr, refl, arith, ap, sym, subst, ◌∙◌}
use Rattle.many_maps.specs.Given.SeizeWorld.{World}
use Rattle.many_maps.specs.Given.TablesChunks.{is_incremental}
use Rattle.many_maps.specs.Given.TablesDeclared.node.Node.{Node}
use Rattle.many_maps.specs.Given.TablesDeclared.setting.Setting.{Setting}
use Rattle.many_maps.specs.Given.RuleChart.{Chart}
use Rattle.many_maps.specs.Given.RuleRule.{Rule}
use Rattle.many_maps.specs.Given.RuleMoves.{Move, Links, Stores, Replaces, Removes, Marks, MarksBlocking, Skips, Unmarks, Puts, Covers, PutsLate, Claims, Reclaims, Counts, GivesUp, Aborts, Promotes, Announces, Allowed, after}
use Rattle.many_maps.specs.Given.RuleWords.{Blocks, root_word}
use Rattle.many_maps.specs.Given.RuleMaps.{spot_of}
use Rattle.many_maps.specs.Given.RuleInWorld.{Moved, SameBlocks, IsMapIn}
use Rattle.many_maps.specs.Given.RuleLinks.{IsLinkTo}
use Rattle.many_maps.proofs.Given.RuleWords.LinksSeen.{link_made, root_leads}
use Rattle.many_maps.proofs.Given.RuleWorld.RootSpared.{RootStays}

-- what the root has passed was made
pub before_made : {K : Type 0} (same : K → K → Bool) (spot : ℕ → K → ℕ → ℕ) (incremental : Bool) (c : Chart K) → Rule same spot incremental c → (t : ℕ) → t < c.first → t < c.past
before_made same spot incremental c rule t low = by c.past refl
  where
    by : (past : ℕ) → c.past ≡ past → t < c.past
    by zero e = let none = rule.common.rootless e in absurd (omega (arith, low, none))
    by (suc past) e = let made = rule.common.rooted (omega (arith, e)) in omega (arith, low, made)

module _ {K : Type 0} (same : K → K → Bool) (hash : K → ℕ) (setting : Setting) (c : Chart K) where
  -- a later table that the map had is the root: in incremental mode the next one
  abbrev pub IsPromoted : Chart K → Type 0
  IsPromoted c2 = (c.first < c2.first) × (c2.first < c.past) × (c2.past ≡ c.past) × cond (is_incremental setting.mode) (c2.first ≡ suc c.first) (Unit {0})

  by_move : (move : Move K) → Allowed same (spot_of hash) (is_incremental setting.mode) move c
      → ((after (spot_of hash) (is_incremental setting.mode) move c).first ≡ c.first) ⊎ IsPromoted (after (spot_of hash) (is_incremental setting.mode) move c)
  by_move (Links len limit) allowed = inl refl
  by_move (Stores t k j) allowed = inl refl
  by_move (Replaces t i k) allowed = inl refl
  by_move (Removes t i) allowed = inl refl
  by_move (Marks caller i) allowed = inl refl
  by_move (MarksBlocking i) allowed = inl refl
  by_move (Skips caller t i) allowed = inl refl
  by_move (Unmarks caller i) allowed = inl refl
  by_move (Puts caller i t k j) allowed = inl refl
  by_move (Covers caller i) allowed = inl refl
  by_move (PutsLate t i n) allowed = inl refl
  by_move (Claims caller t chunk) allowed = inl refl
  by_move (Reclaims t claim) allowed = inl refl
  by_move (Counts caller t number) allowed = inl refl
  by_move (GivesUp caller t) allowed = inl refl
  by_move (Aborts t) allowed = inl refl
  by_move (Promotes t) allowed = inr (allowed.0, allowed.1, refl, allowed.3)
  by_move (Announces t) allowed = inl refl

  pub first_moves : (c2 : Chart K) → {caller : ℕ} → Moved same hash setting.mode caller c c2 → (c2.first ≡ c.first) ⊎ IsPromoted c2
  first_moves c2 (inl e) = inl (ap (λ (x : Chart K). x.first) e)
  first_moves c2 (inr (move, allowed, e, by)) = subst (λ (x : Chart K). (x.first ≡ c.first) ⊎ IsPromoted x) (sym e) (by_move move allowed)

module _ {K V : Type 0} (same : K → K → Bool) (hash : K → ℕ) (setting : Setting) (w w2 : World (Node K V)) (c c2 : Chart K) (blocks blocks2 : Blocks)
    (map : IsMapIn same hash setting w c blocks) (map2 : IsMapIn same hash setting w2 c2 blocks2) (same_blocks : SameBlocks c blocks blocks2) where
  -- the link to the root of a map that has one
  root_link : 0 < c.past → IsLinkTo c blocks (root_word hash c blocks) c.first
  root_link some =
      link_made c blocks (root_word hash c blocks) c.first
      (root_leads same hash setting.mode setting.root w.memory c blocks map.map (root_word hash c blocks) map.map.shows.root_there) (map.map.rule.common.rooted some)

  -- it is none to a later table
  not_later : 0 < c.past → c.first < c2.first → c2.first < c2.past → RootStays setting.root w.memory w2.memory → ⊥
  not_later some later made (inl stays) =
      let link = root_link some in
      let leads = link_made c2 blocks2 (root_word hash c blocks) c2.first
      (root_leads same hash setting.mode setting.root w2.memory c2 blocks2 map2.map (root_word hash c blocks) (stays ∙ map.map.shows.root_there)) made in
      let here = same_blocks.tables c.first link.1 link.2 in
      let old : blocks2.table c.first ≡ blocks.table c.first = here.0 in
      let was : root_word hash c blocks ≡ blocks.table c.first * 2048 = link.0 in
      let is : root_word hash c blocks ≡ blocks2.table c2.first * 2048 = leads.0 in
      let turn = map2.map.shows.tables_apart c.first c2.first (omega (arith, later, made)) made here.1 leads.2 (omega (arith, old, was, is)) in
      omega (arith, later, turn)
  not_later some later made (inr none) =
      let link = root_link some in
      let number = (map.map.shows.table_numbers c.first link.1 link.2).0 in
      let empty : root_word hash c blocks ≡ 0 = same_word (sym map.map.shows.root_there ∙ none) in
      let was : root_word hash c blocks ≡ blocks.table c.first * 2048 = link.0 in
      omega (arith, number, empty, was)
    where
      same_word : Some (root_word hash c blocks) ≡ Some 0 → root_word hash c blocks ≡ 0
      same_word e = cc e

  -- where the root's word stays, the root does
  pub first_kept : {caller : ℕ} → Moved same hash setting.mode caller c c2 → RootStays setting.root w.memory w2.memory → c2.first ≡ c.first
  first_kept moved stays = by (first_moves same hash setting c c2 moved)
    where
      by : (c2.first ≡ c.first) ⊎ IsPromoted same hash setting c c2 → c2.first ≡ c.first
      by (inl e) = e
      by (inr (later, made, past, next)) =
          absurd (not_later (omega (arith, later, made)) later (let e = past in omega (arith, made, e)) stays)
