-- What is answered to the questions about ledgers is what is computed of the posts.
use Rattle.std.proofs.Common.{◌≡◌, ◌↔◌, Bool, true, false, List, refl, sym}
use Rattle.std.specs.Prelude.{IsTrue}
use Rattle.std.proofs.lemmas.Bool.{both_ways, false_from_ne_true}
use Rattle.hb_base.specs.Numbers.{Numbers}
use Rattle.hb_wire.specs.declared.post.Post.{Post}
use Rattle.hb_rules.specs.Ledger.{AreComparable, BatchesAreEnough, AreUnaltered}
use Rattle.acs_world.specs.Prefixes.{all_alike}
use Rattle.acs_world.proofs.Exact.{batches_from, batches_all}
use Rattle.acs_world.proofs.Items.{unaltered_from, unaltered_all}
use Rattle.acs_world.proofs.Prefixes.{comparable_from, comparable_all}
use Rattle.ledger_text.specs.Text.{all_enough, all_unaltered}

-- two answers to one question
same_answer : (b d : Bool) (P : Type 0) → (IsTrue b ↔ P) → (d ≡ true → P) → (P → d ≡ true) → b ≡ d
same_answer true d P exact from all = sym (all (exact.0 refl))
same_answer false d P exact from all = sym (false_from_ne_true d (λ passes. both_ways false refl (exact.1 (from passes))))

pub comparable_is : (c : Numbers) (posts : List Post) (b : Bool) → (IsTrue b ↔ AreComparable c posts) → b ≡ all_alike c posts
comparable_is c posts b exact = same_answer b (all_alike c posts) (AreComparable c posts) exact (comparable_from c posts) (comparable_all c posts)

pub enough_is : (c : Numbers) (posts : List Post) (b : Bool) → (IsTrue b ↔ BatchesAreEnough c posts) → b ≡ all_enough c posts
enough_is c posts b exact = same_answer b (all_enough c posts) (BatchesAreEnough c posts) exact (batches_from c posts) (batches_all c posts)

pub unaltered_is : (c : Numbers) (posts : List Post) (b : Bool) → (IsTrue b ↔ AreUnaltered c posts) → b ≡ all_unaltered c posts
unaltered_is c posts b exact = same_answer b (all_unaltered c posts) (AreUnaltered c posts) exact (unaltered_from c posts) (unaltered_all c posts)
