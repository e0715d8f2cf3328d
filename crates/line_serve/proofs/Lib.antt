mod LineLaws
mod SessionLaws
