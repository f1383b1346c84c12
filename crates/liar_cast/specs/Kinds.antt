-- The six kinds of liars.
use Rattle.std.specs.Prelude.{ℕ, List, [], ◌∷◌, codes}
use Rattle.liar_cast.specs.declared.kind.Kind.{Kind}
use Rattle.liar_cast.specs.declared.kind.Kind.TheVariants.{Silent, Equivocate, EchoSplit, BvalBoth, FalseShare, Babble}

-- under which name a scenario asks for a liar
abbrev pub name_of : Kind → List ℕ
name_of (Silent liar) = codes "silent"
name_of (Equivocate liar) = codes "equivocate"
name_of (EchoSplit liar) = codes "echo_split"
name_of (BvalBoth liar) = codes "bval_both"
name_of (FalseShare liar) = codes "false_share"
name_of (Babble liar) = codes "babble"

-- the names of the kinds, in order
abbrev pub names : List (List ℕ)
names = codes "silent" ∷ codes "equivocate" ∷ codes "echo_split" ∷ codes "bval_both" ∷ codes "false_share" ∷ codes "babble" ∷ []
