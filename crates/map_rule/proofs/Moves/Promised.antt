-- The moves keep the rule, each in the modes in which it is made.
use Rattle.std.proofs.Common.{ℕ, Bool, true, false}
use Rattle.map_rule.specs.Moves.{Links, Stores, Replaces, Removes, Marks, MarksBlocking, Skips, Unmarks, Puts, Covers, PutsLate, Claims, Reclaims, Counts, GivesUp, Aborts, Promotes, Announces}
use Rattle.map_rule.specs.Lasts.{MovesPreserveTheRule}
use Rattle.map_rule.proofs.Moves.Links.{kept_links_incremental, kept_links_blocking}
use Rattle.map_rule.proofs.Stores.StoresIncremental.{kept_stores_incremental}
use Rattle.map_rule.proofs.Stores.StoresBlocking.{kept_stores_blocking}
use Rattle.map_rule.proofs.Moves.Replaces.{kept_replaces_incremental, kept_replaces_blocking}
use Rattle.map_rule.proofs.Moves.Removes.{kept_removes_incremental, kept_removes_blocking}
use Rattle.map_rule.proofs.Moves.MarksIncremental.{kept_marks_incremental}
use Rattle.map_rule.proofs.Moves.MarksBlocking.{kept_marks_blocking}
use Rattle.map_rule.proofs.Moves.Skips.{kept_skips_blocking}
use Rattle.map_rule.proofs.Moves.UnmarksIncremental.{kept_unmarks_incremental}
use Rattle.map_rule.proofs.Moves.PutsIncremental.{kept_puts as kept_puts_incremental}
use Rattle.map_rule.proofs.Moves.PutsBlocking.{kept_puts as kept_puts_blocking}
use Rattle.map_rule.proofs.Moves.CoversIncremental.{kept_covers_incremental}
use Rattle.map_rule.proofs.Moves.PutsLate.{kept_puts_late}
use Rattle.map_rule.proofs.Moves.Claims.{kept_claims_blocking}
use Rattle.map_rule.proofs.Moves.Reclaims.{kept_reclaims_incremental}
use Rattle.map_rule.proofs.Moves.Counts.{kept_counts_incremental, kept_counts_blocking}
use Rattle.map_rule.proofs.Moves.GivesUp.{kept_gives_up_blocking}
use Rattle.map_rule.proofs.Moves.Aborts.{kept_aborts_blocking}
use Rattle.map_rule.proofs.Moves.PromotesIncremental.{kept_promotes_incremental}
use Rattle.map_rule.proofs.Moves.PromotesBlocking.{kept_promotes_blocking}
use Rattle.map_rule.proofs.Moves.Announces.{kept_announces_incremental, kept_announces_blocking}

module _ {K : Type 0} (same : K → K → Bool) (spot : ℕ → K → ℕ → ℕ) where
  pub kept_incremental : MovesPreserveTheRule same spot true
  kept_incremental lawful (Links len limit) c rule a = kept_links_incremental same spot len limit c lawful rule a
  kept_incremental lawful (Stores t k try) c rule a = kept_stores_incremental same spot t k try c lawful rule a
  kept_incremental lawful (Replaces t i k) c rule a = kept_replaces_incremental same spot t i k c lawful rule a
  kept_incremental lawful (Removes t i) c rule a = kept_removes_incremental same spot t i c lawful rule a
  kept_incremental lawful (Marks caller i) c rule a = kept_marks_incremental same spot caller i c lawful rule a
  kept_incremental lawful (MarksBlocking i) c rule a = absurd (cc a.0)
  kept_incremental lawful (Skips caller t i) c rule a = absurd (cc a.0)
  kept_incremental lawful (Unmarks caller i) c rule a = kept_unmarks_incremental same spot caller i c lawful rule a
  kept_incremental lawful (Puts caller i t k try) c rule a = kept_puts_incremental same spot lawful caller i t k try c rule a
  kept_incremental lawful (Covers caller i) c rule a = kept_covers_incremental same spot caller i c lawful rule a
  kept_incremental lawful (PutsLate t i n) c rule a = absurd (cc a.0)
  kept_incremental lawful (Claims caller t chunk) c rule a = absurd (cc a.0)
  kept_incremental lawful (Reclaims t claim) c rule a = kept_reclaims_incremental same spot t claim c lawful rule a
  kept_incremental lawful (Counts caller t number) c rule a = kept_counts_incremental same spot caller t number c lawful rule a
  kept_incremental lawful (GivesUp caller t) c rule a = absurd (cc a)
  kept_incremental lawful (Aborts t) c rule a = absurd (cc a.0)
  kept_incremental lawful (Promotes t) c rule a = kept_promotes_incremental same spot t c lawful rule a
  kept_incremental lawful (Announces t) c rule a = kept_announces_incremental same spot t c lawful rule a

  pub kept_blocking : MovesPreserveTheRule same spot false
  kept_blocking lawful (Links len limit) c rule a = kept_links_blocking same spot len limit c lawful rule a
  kept_blocking lawful (Stores t k try) c rule a = kept_stores_blocking same spot t k try c lawful rule a
  kept_blocking lawful (Replaces t i k) c rule a = kept_replaces_blocking same spot t i k c lawful rule a
  kept_blocking lawful (Removes t i) c rule a = kept_removes_blocking same spot t i c lawful rule a
  kept_blocking lawful (Marks caller i) c rule a = absurd (cc a.0)
  kept_blocking lawful (MarksBlocking i) c rule a = kept_marks_blocking same spot i c lawful rule a
  kept_blocking lawful (Skips caller t i) c rule a = kept_skips_blocking same spot caller t i c lawful rule a
  kept_blocking lawful (Unmarks caller i) c rule a = absurd (cc a.0)
  kept_blocking lawful (Puts caller i t k try) c rule a = kept_puts_blocking same spot lawful caller i t k try c rule a
  kept_blocking lawful (Covers caller i) c rule a = absurd (cc a.0)
  kept_blocking lawful (PutsLate t i n) c rule a = kept_puts_late same spot lawful t i n c rule a
  kept_blocking lawful (Claims caller t chunk) c rule a = kept_claims_blocking same spot caller t chunk c lawful rule a
  kept_blocking lawful (Reclaims t claim) c rule a = absurd (cc a.0)
  kept_blocking lawful (Counts caller t number) c rule a = kept_counts_blocking same spot caller t number c lawful rule a
  kept_blocking lawful (GivesUp caller t) c rule a = kept_gives_up_blocking same spot caller t c lawful rule a
  kept_blocking lawful (Aborts t) c rule a = kept_aborts_blocking same spot t c lawful rule a
  kept_blocking lawful (Promotes t) c rule a = kept_promotes_blocking same spot t c lawful rule a
  kept_blocking lawful (Announces t) c rule a = kept_announces_blocking same spot t c lawful rule a

  pub moves_keep : (incremental : Bool) → MovesPreserveTheRule same spot incremental
  moves_keep true = kept_incremental
  moves_keep false = kept_blocking
