use Rattle.std.proofs.Common.{◌≡◌, subst}
use Rattle.std.specs.Prelude.{string_bytes, cond, true}
use Rattle.std.specs.BTreeSet.{contains_text}
use Rattle.std.specs.Str.{bytes_eq}
use Rattle.std.proofs.lemmas.Map.Text.{btree_set_updates_text}
use Rattle.mm_token.proofs.names.Names.add.Goals as goal

pub returns : goal.returns
returns c = λ other.
    subst (λ bs. contains_text c.insert.new.self other ≡ cond (bytes_eq bs other) true (contains_text c.args.self.now.set other))
    c.in_ok-key.ensures.ok
    (btree_set_updates_text (string_bytes c.in_ok-key.key) c.args.self.now.set c.insert.new.self true c.in_ok-insert.ensures.updates other)
