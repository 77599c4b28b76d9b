use Rattle.std.proofs.Common.{rules, ◌≡◌, ◌++◌, ◌∷◌, [], string_bytes}
use Rattle.std.specs.Prelude.{codes, decimal}
use Rattle.ndtables.proofs.ShownText.{line-told}
use Rattle.ndtables.proofs.place.item_line.Goals as goal

pub returns : goal.returns
returns c =
    let begin : string_bytes c.in_ok-text.text ≡ codes "ndtables: line " ++ decimal c.args.line = search rules in
    let end : string_bytes c.push.new.self ≡ string_bytes c.push_item.new.line ++ 10 ∷ [] = search rules in
    line-told c.args.line (string_bytes c.in_ok-text.text) (string_bytes c.push_item.new.line) (string_bytes c.push.new.self) begin c.in_ok-push_item.ensures end
