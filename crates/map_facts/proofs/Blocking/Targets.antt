-- In blocking mode, what a copier may do at the words of its target, and what these say then, whichever table it copies.
use Rattle.std.specs.Prelude.{Some, IsSome, nat_lt}
use Rattle.std.proofs.Common.{◌≡◌, ◌≢◌, ℕ, suc, ◌+◌, ◌/◌, ◌%◌, ◌^◌, ◌<◌, ◌≤◌, ◌==◌, Bool, false, sym, subst, arith}
use Rattle.std.proofs.lemmas.Bool.{eqb-false}
use Rattle.map_rule.specs.Given.SeizeWordsDeclared.at.At.{At}
use Rattle.map_rule.specs.Given.SeizeWordsDeclared.at.At.TheVariants.{Word}
use Rattle.map_rule.specs.Given.SeizeWordsMem.{Can, Took, value_at, word_at, with_word}
use Rattle.map_rule.specs.Given.SeizeWordsPlan.{May}
use Rattle.map_rule.proofs.Given.SeizeWordsOneOwner.Operations.{may_add, may_load, may_store}
use Rattle.map_rule.proofs.Given.SeizeWordsPlans.{see_if}
use Rattle.papaya_raw.specs.Given.SeizeWorld.{World}
use Rattle.papaya_raw.specs.Given.TablesChunks.{chunk_of, is_incremental}
use Rattle.papaya_raw.specs.Given.TablesNodes.{table_seen}
use Rattle.papaya_raw.specs.Given.TablesTablePlaces.{at_word}
use Rattle.papaya_raw.specs.Given.TablesDeclared.node.Node.{Node}
use Rattle.papaya_raw.specs.Given.TablesDeclared.resize_mode.ResizeMode.{ResizeMode}
use Rattle.papaya_raw.specs.Given.TablesDeclared.resize_mode.ResizeMode.TheVariants.{Incremental, Blocking}
use Rattle.papaya_raw.specs.Given.TablesDeclared.setting.Setting.{Setting}
use Rattle.papaya_raw.specs.Given.TablesDeclared.status.TheConstants.Status.{ABORTED, PROMOTED}
use Rattle.papaya_raw.specs.Given.TablesDeclared.table_words.TheConstants.{NEXT, CLAIM, COPIED, STATUS}
use Rattle.map_rule.specs.Given.ResizeCopierClaims.{chunk, asks, status_read, sees, claim_read, claims, claimed}
use Rattle.map_rule.specs.Given.ResizeCopierCounts.{counts, counted}
use Rattle.map_rule.specs.Given.ResizeCopierFurther.{aborts, replacement_read, replaces, to}
use Rattle.map_rule.specs.Given.ResizeCopierPromotes.{announces}
use Rattle.map_rule.specs.Given.ResizeCopierStates.{standing}
use Rattle.map_rule.specs.Given.ResizeDeclared.copier.Copier.{Copier}
use Rattle.map_rule.specs.Given.ResizeDeclared.copier.Copying.TheVariants as at
use Rattle.map_rule.specs.Chart.{Share, Chart, put}
use Rattle.map_rule.specs.InWorld.{IsMapIn}
use Rattle.map_rule.specs.Links.{IsLinkTo, LeadsTo}
use Rattle.map_rule.specs.Maps.{IsTable}
use Rattle.map_rule.specs.Words.{Blocks, Represents, next_word}
use Rattle.map_rule.proofs.Words.LinksSeen.{link_some, next_leads}
use Rattle.map_rule.proofs.Words.TablesSeen.{word_stands, link_seen, table_is, next_there, claim_there, copied_there, status_there}
use Rattle.map_rule.proofs.Words.WritesTables.{claim_written, copied_written, status_written}
use Rattle.map_rule.proofs.World.Framed.{shows_beside}
use Rattle.map_rule.proofs.Given.General.{some_is as is_some_of}

-- a chunk has no more places than its table, and some
pub chunk_few : (mode : ResizeMode) (len : ℕ) → chunk_of mode len ≤ len
chunk_few (Incremental chunk) len = omega arith
chunk_few Blocking len = omega arith

pub chunk_some : (mode : ResizeMode) (len : ℕ) → is_incremental mode ≡ false → 0 < len → 0 < chunk_of mode len
chunk_some (Incremental chunk) len blocking some = absurd (cc)
chunk_some Blocking len blocking some = omega arith

module _ {K V : Type 0} (same : K → K → Bool) (hash : K → ℕ) (setting : Setting) (w : World (Node K V)) (c : Chart K) (blocks : Blocks)
    (map : IsMapIn same hash setting w c blocks)
    (p : Copier) (t : ℕ) (target : IsTable c blocks p.target t) where
  pub status_is : word_at w.memory (at_word p.target STATUS) ≡ Some (c.status t)
  status_is = status_there hash w.memory c blocks setting.root map.map.shows p.target t target

  pub claim_is : word_at w.memory (at_word p.target CLAIM) ≡ Some (c.claim t)
  claim_is = claim_there hash w.memory c blocks setting.root map.map.shows p.target t target

  pub copied_is : word_at w.memory (at_word p.target COPIED) ≡ Some (c.copied t)
  copied_is = copied_there hash w.memory c blocks setting.root map.map.shows p.target t target

  next_is : word_at w.memory (at_word p.target NEXT) ≡ Some (next_word hash c blocks t)
  next_is = next_there hash w.memory c blocks setting.root map.map.shows p.target t target

  pub may_ask : May Can Took value_at w.memory (asks p)
  may_ask =
      may_load w.memory (status_read p) (at_word p.target STATUS) (is_some_of _ _ status_is)
      (λ status e. see_if (value_at w.memory) (status == PROMOTED) _ _ (λ _. tt) (λ _. see_if (value_at w.memory) (status == ABORTED) _ _ (λ _. tt)
      (λ _. see_if (value_at w.memory) p.spent _ _ (λ _. tt) (λ _. tt))))

  pub may_see : May Can Took value_at w.memory (sees p)
  may_see =
      may_load w.memory (claim_read p) (at_word p.target CLAIM) (is_some_of _ _ claim_is)
      (λ claim e. see_if (value_at w.memory) (nat_lt claim p.source.len) _ _ (λ _. tt) (λ _. tt))

  pub may_claim : May Can Took value_at w.memory (claims p)
  may_claim =
      may_add w.memory (claimed p) (at_word p.target CLAIM) (chunk p) (is_some_of _ _ claim_is)
      (λ claim e. see_if (value_at (with_word w.memory (at_word p.target CLAIM) ((claim + chunk p) % 2 ^ 64))) (nat_lt claim p.source.len) _ _ (λ _. tt) (λ _. tt))

  pub may_count : May Can Took value_at w.memory (counts p)
  may_count =
      may_add w.memory (counted p) (at_word p.target COPIED) p.done (is_some_of _ _ copied_is)
      (λ count e. see_if (value_at (with_word w.memory (at_word p.target COPIED) ((count + p.done) % 2 ^ 64))) ((count + p.done) % 2 ^ 64 == p.source.len) _ _ (λ _. tt) (λ _. tt))

  pub may_abort : May Can Took value_at w.memory (aborts p)
  may_abort = may_store w.memory (λ out. to (standing p at.Replaces)) (at_word p.target STATUS) ABORTED (is_some_of _ _ status_is) tt

  pub may_announce : May Can Took value_at w.memory (announces p)
  may_announce = may_store w.memory (λ out. to (standing p (at.Succeeds p.source.link))) (at_word p.target STATUS) PROMOTED (is_some_of _ _ status_is) tt

  -- the link behind it leads to the next table, if there is one
  pub leads_on : (link : ℕ) → word_at w.memory (at_word p.target NEXT) ≡ Some link → LeadsTo c blocks link (suc t)
  leads_on link read = next_leads same hash setting.mode setting.root w.memory c blocks map.map p.target t link target read

  pub leads_to_table : (link : ℕ) → word_at w.memory (at_word p.target NEXT) ≡ Some link → link ≢ 0 → IsLinkTo c blocks link (suc t)
  leads_to_table link read some = link_some c blocks link (suc t) (leads_on link read) some

  pub table_behind : (link : ℕ) (value : Node K V) → IsLinkTo c blocks link (suc t) → value_at w.memory (link / 2048) ≡ Some value
      → IsTable c blocks (table_seen link value) (suc t)
  table_behind link value there seen =
      subst (λ (x : ℕ). IsTable c blocks (table_seen x value) (suc t)) (sym there.0)
      (table_is hash w.memory c blocks setting.root map.map.shows (suc t) there.1 there.2 value (subst (λ (x : ℕ). value_at w.memory (x / 2048) ≡ Some value) there.0 seen))

  pub may_replace : May Can Took value_at w.memory (replaces p)
  may_replace =
      may_load w.memory (replacement_read p) (at_word p.target NEXT) (is_some_of _ _ next_is)
      (λ link read. see_if (value_at w.memory) (link == 0) _ _ (λ _. tt) (λ some. (seen link (leads_to_table link read (eqb-false link 0 some)), λ value e. tt)))
    where
      seen : (link : ℕ) → IsLinkTo c blocks link (suc t) → IsSome (value_at w.memory (link / 2048))
      seen link there =
          subst (λ (x : ℕ). IsSome (value_at w.memory (x / 2048))) (sym there.0)
          (link_seen hash w.memory c blocks setting.root map.map.shows (suc t) there.1 there.2)

  -- a word of it is another one
  pub claim_shows : (word claim : ℕ) → claim ≡ word → (share : ℕ → ℕ → Share)
      → Represents hash (with_word w.memory (at_word p.target CLAIM) word) (record c { claim = put c.claim t claim; share = share }) blocks setting.root
  claim_shows word claim is share =
      subst (λ (x : At). Represents hash (with_word w.memory x word) (record c { claim = put c.claim t claim; share = share }) blocks setting.root)
      (sym (word_stands hash w.memory c blocks setting.root map.map.shows p.target t target CLAIM))
      (subst (λ (y : ℕ). Represents hash (with_word w.memory (Word (blocks.table t) CLAIM) y) (record c { claim = put c.claim t claim; share = share }) blocks setting.root) is
      (shows_beside hash (with_word w.memory (Word (blocks.table t) CLAIM) claim) (record c { claim = put c.claim t claim }) blocks setting.root share c.current
      (claim_written hash w.memory c blocks setting.root map.map.shows t claim target.made target.known)))

  pub copied_shows : (word copied : ℕ) → copied ≡ word → (share : ℕ → ℕ → Share)
      → Represents hash (with_word w.memory (at_word p.target COPIED) word) (record c { copied = put c.copied t copied; share = share }) blocks setting.root
  copied_shows word copied is share =
      subst (λ (x : At). Represents hash (with_word w.memory x word) (record c { copied = put c.copied t copied; share = share }) blocks setting.root)
      (sym (word_stands hash w.memory c blocks setting.root map.map.shows p.target t target COPIED))
      (subst (λ (y : ℕ). Represents hash (with_word w.memory (Word (blocks.table t) COPIED) y) (record c { copied = put c.copied t copied; share = share }) blocks setting.root) is
      (shows_beside hash (with_word w.memory (Word (blocks.table t) COPIED) copied) (record c { copied = put c.copied t copied }) blocks setting.root share c.current
      (copied_written hash w.memory c blocks setting.root map.map.shows t copied target.made target.known)))

  pub status_shows : (status : ℕ)
      → Represents hash (with_word w.memory (at_word p.target STATUS) status) (record c { status = put c.status t status }) blocks setting.root
  status_shows status =
      subst (λ (x : At). Represents hash (with_word w.memory x status) (record c { status = put c.status t status }) blocks setting.root)
      (sym (word_stands hash w.memory c blocks setting.root map.map.shows p.target t target STATUS))
      (status_written hash w.memory c blocks setting.root map.map.shows t status target.made target.known)
