use Rattle.reader_laws.proofs.Hits.{hit_opens}
use Rattle.reader_laws.proofs.laws.hit_opens.Goals as goal

pub returns : goal.returns
returns c = λ run s turn actor key request put size r. hit_opens c.one_group.ensures run s turn key request put size r actor
