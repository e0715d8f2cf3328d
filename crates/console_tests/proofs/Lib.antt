mod Posts
