-- `records::Reply::put` stores the sixteen bytes one after the other.
use mathlib.Core.Path.{ap, ◌∙◌}
use Rattle.rules.specs.Blocks.{put_link}
use Rattle.records.specs.Replies.{put_bytes}
use Rattle.records.proofs.Reply.put.Goals as goal

pub returns : goal.returns
returns c =
    let a = c.args in
    let r = a.self in
    c.put_link-3.ensures
    ∙ ap (put_link _ r.live) (c.put_link-2.ensures ∙ ap (put_link _ r.size) c.put_link.ensures)
    ∙ put_bytes a.output.now a.at r.op r.number r.offset r.size r.live
