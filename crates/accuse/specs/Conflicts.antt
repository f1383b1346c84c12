-- Which two votes of one actor contradict each other. A correct actor casts one vote of a kind for an epoch, and where the
-- kind has rounds one for a round. The letters: e and d are epochs, m and t nodes.
use Rattle.std.specs.Prelude.{Bool, false, ◌&&◌, ◌||◌, ◌==◌, not, bytes_eq}
use Rattle.hb_wire.specs.declared.vote.Vote.{Vote}
use Rattle.hb_wire.specs.declared.vote.Vote.TheVariants.{Val, Echo, Ready, Delivered, Est, Bval, Aux, Conf, Pick, Coin, Decided, Propose, NoMore, Closed}
use Rattle.hb_rules.specs.Claims.{is_val_to, is_any_echo, is_any_ready, is_any_delivery, is_any_decision, is_any_proposal, is_any_closing}
use Rattle.hb_rules.specs.Marks.{is_any_est, is_any_aux, is_any_conf, is_any_pick, is_any_coin}
use Rattle.hb_rules.specs.Same.{same_vote}

-- The votes that a vote excludes: a correct actor that casts it casts no other of them. They are those of its kind and epoch,
-- of its round where it has one, and for its node where it is a Val. A Bval excludes none, since an actor may support both
-- bits of a round, nor does NoMore, which says the same each time.
unfoldable pub excludes : Vote → Vote → Bool
excludes (Val e m root shard branch) w = is_val_to e m w
excludes (Echo e root shard branch) w = is_any_echo e w
excludes (Ready e root) w = is_any_ready e w
excludes (Delivered e value) w = is_any_delivery e w
excludes (Est e r bit) w = is_any_est e r w
excludes (Bval e r bit) w = false
excludes (Aux e r bit) w = is_any_aux e r w
excludes (Conf e r vals) w = is_any_conf e r w
excludes (Pick e r vals) w = is_any_pick e r w
excludes (Coin e r share salt branch) w = is_any_coin e r w
excludes (Decided e bit) w = is_any_decision e w
excludes (Propose e value) w = is_any_proposal e w
excludes (NoMore e) w = false
excludes (Closed e list) w = is_any_closing e w

-- whether the votes hand out shards of two values in one epoch
unfoldable pub show_two_roots : Vote → Vote → Bool
show_two_roots (Val e m root shard branch) (Val d t other piece path) = (e == d) && not (bytes_eq root other)
show_two_roots _ _ = false

-- Whether two votes contradict each other: the one excludes the other, which is another vote, or they show two roots.
abbrev pub conflicts : Vote → Vote → Bool
conflicts v w = show_two_roots v w || (excludes v w && not (same_vote v w))
