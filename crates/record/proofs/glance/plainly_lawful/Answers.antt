-- `record::glance::plainly_lawful` meets its contract.
-- Assumes nothing.
use Rattle.record.proofs.glance.plainly_lawful.Goals as goal

pub returns-in-Catalogo : goal.returns-in-Catalogo
returns-in-Catalogo c e i = rw c.in-Catalogo.is (c.catalogo.ensures e i)

pub returns-in-ObPun : goal.returns-in-ObPun
returns-in-ObPun c e i = rw c.in-ObPun.is (c.ob_pun.ensures e i)

pub returns-in-ObTex : goal.returns-in-ObTex
returns-in-ObTex c e i = rw c.in-ObTex.is (c.ob_tex.ensures e i)

pub returns-in-ObLin : goal.returns-in-ObLin
returns-in-ObLin c e i = rw c.in-ObLin.is (c.ob_lin.ensures e i)

pub returns-in-Tramo : goal.returns-in-Tramo
returns-in-Tramo c e i = rw c.in-Tramo.is (c.tramo.ensures e i)

pub returns-in-Vertice : goal.returns-in-Vertice
returns-in-Vertice c e i = rw c.in-Vertice.is (c.vertice.ensures e i)

pub returns-in-Nodo : goal.returns-in-Nodo
returns-in-Nodo c e i = rw c.in-Nodo.is (c.nodo.ensures e i)

pub returns-in-ObComp : goal.returns-in-ObComp
returns-in-ObComp c e i = rw c.in-ObComp.is (c.ob_comp.ensures e i)
