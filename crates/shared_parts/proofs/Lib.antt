pub mod PagesLemmas
